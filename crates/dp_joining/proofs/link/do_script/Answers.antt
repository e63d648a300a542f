use Rattle.dp_line_machine.specs.Moments.{moment}
use Rattle.dp_joining.specs.Scripts.{seen_by}
use Rattle.dp_joining.proofs.Doing.{nothing_done}
use Rattle.dp_joining.proofs.Leaving.{fault_matches_of, later_of, leaves_of}
use Rattle.dp_joining.proofs.link.do_script.Goals as goal

pub run_lines-ended-requires-clause-first : goal.run_lines-ended-requires-clause-first
run_lines-ended-requires-clause-first g c =
    nothing_done (seen_by g.O.Sink.held g.O.Sink.faults)
    (moment (record { joiner = c.args.joiner }) c.args.output.now c.args.draws.now c.args.tiles.now)
    c.requires.readable

pub returns-clause-leaves : goal.returns-clause-leaves
returns-clause-leaves g c = λ name link first welcome is.
    rw c.into_link-rx.ensures.held (leaves_of (seen_by g.O.Sink.held g.O.Sink.faults) name first
    welcome
    (moment (record { joiner = c.args.joiner }) c.args.output.now c.args.draws.now c.args.tiles.now)
    (moment c.run_lines-ended.new.machine c.run_lines-ended.new.output
    c.run_lines-ended.new.draws c.run_lines-ended.new.tiles)
    (g.I.Source.left c.args.input.now) (g.I.Source.left c.run_lines-ended.new.input) link is
    c.further_step.ensures.more c.leave-end.new.joiner.written c.run_lines-ended.result
    c.run_lines-ended.new.machine.joiner.write_faults c.leave-end.new.joiner.write_faults
    c.leave-end.result c.run_lines-ended.ensures.leaves c.leave-end.ensures.parts)

pub returns-clause-fault : goal.returns-clause-fault
returns-clause-fault g c = λ name link first welcome is.
    rw (c.into_link-rx.ensures.source, c.into_link-rx.ensures.sink, c.leave-end.ensures.source)
    (fault_matches_of (seen_by g.O.Sink.held g.O.Sink.faults) name first welcome
    (moment (record { joiner = c.args.joiner }) c.args.output.now c.args.draws.now c.args.tiles.now)
    (moment c.run_lines-ended.new.machine c.run_lines-ended.new.output
    c.run_lines-ended.new.draws c.run_lines-ended.new.tiles)
    (g.I.Source.left c.args.input.now) (g.I.Source.left c.run_lines-ended.new.input) link is
    (g.I.Source.faults c.args.input.now) (g.I.Source.faults c.run_lines-ended.new.input)
    c.leave-end.new.joiner.write_faults c.leave-end.new.joiner.written c.run_lines-ended.result
    c.run_lines-ended.new.machine.joiner.client.user c.leave-end.result
    c.run_lines-ended.ensures.leaves c.run_lines-ended.ensures.fault c.leave-end.ensures.parts)

pub returns-clause-output_later : goal.returns-clause-output_later
returns-clause-output_later g c = λ name link first welcome is.
    later_of (seen_by g.O.Sink.held g.O.Sink.faults) name first welcome
    (moment (record { joiner = c.args.joiner }) c.args.output.now c.args.draws.now c.args.tiles.now)
    (moment c.run_lines-ended.new.machine c.run_lines-ended.new.output
    c.run_lines-ended.new.draws c.run_lines-ended.new.tiles)
    (g.I.Source.left c.args.input.now) (g.I.Source.left c.run_lines-ended.new.input) link is
    c.run_lines-ended.result c.run_lines-ended.ensures.leaves

pub returns-clause-took : goal.returns-clause-took
returns-clause-took g c = c.run_lines-ended.ensures.took
