use Rattle.dp_line_machine.specs.Moments.{moment}
use Rattle.dp_world_lines.specs.Progress.{world_of}
use Rattle.dp_world.proofs.Leaving.{nothing_done, refused_leaves, leaves_of, fault_matches_of}
use Rattle.dp_world.proofs.Leaving.{later_of}
use Rattle.dp_world.proofs.run.run_world.Goals as goal

pub returns-in_default-clause-leaves : goal.returns-in_default-clause-leaves
returns-in_default-clause-leaves g c =
    refused_leaves c.further_step.ensures.none (g.I.Source.left c.args.input.now)
    (g.I.Source.left c.args.input.now) (g.O.Sink.held c.args.output.now) c.args.draws.now
    c.args.tiles.now

pub run_lines-requires-clause-first : goal.run_lines-requires-clause-first
run_lines-requires-clause-first g c =
    nothing_done (world_of g.W.ScheduleWorld.seen) g.O.Sink.held g.O.Sink.faults
    (moment c.in-Ok.machine c.args.output.now c.args.draws.now c.args.tiles.now)
    c.in-Ok.ensures.first

pub returns-clause-leaves : goal.returns-clause-leaves
returns-clause-leaves g c =
    let start = moment c.in-Ok.machine c.args.output.now c.args.draws.now c.args.tiles.now in
    let now = moment c.run_lines.new.machine c.run_lines.new.output c.run_lines.new.draws
    c.run_lines.new.tiles in
    rw c.run_end.ensures
    (leaves_of (world_of g.W.ScheduleWorld.seen) g.O.Sink.held g.O.Sink.faults
    c.further_step.ensures.more (g.I.Source.left c.args.input.now)
    (g.I.Source.left c.run_lines.new.input) start now c.run_lines.result
    c.run_lines.ensures.leaves c.run_lines.ensures.took)

pub returns-clause-fault : goal.returns-clause-fault
returns-clause-fault g c =
    let start = moment c.in-Ok.machine c.args.output.now c.args.draws.now c.args.tiles.now in
    let now = moment c.run_lines.new.machine c.run_lines.new.output c.run_lines.new.draws
    c.run_lines.new.tiles in
    rw c.run_end.ensures
    (fault_matches_of (world_of g.W.ScheduleWorld.seen) g.O.Sink.held g.O.Sink.faults
    (g.I.Source.left c.args.input.now) (g.I.Source.left c.run_lines.new.input) start now
    (g.I.Source.faults c.args.input.now) (g.I.Source.faults c.run_lines.new.input)
    c.run_lines.result c.run_lines.ensures.leaves c.run_lines.ensures.fault)

pub returns-clause-output_later : goal.returns-clause-output_later
returns-clause-output_later g c =
    let start = moment c.in-Ok.machine c.args.output.now c.args.draws.now c.args.tiles.now in
    let now = moment c.run_lines.new.machine c.run_lines.new.output c.run_lines.new.draws
    c.run_lines.new.tiles in
    later_of (world_of g.W.ScheduleWorld.seen) g.O.Sink.held g.O.Sink.faults
    (g.I.Source.left c.args.input.now) (g.I.Source.left c.run_lines.new.input) start now
    c.run_lines.result c.run_lines.ensures.leaves
