use Rattle.dp_viewer.specs.Ways.{play_way}
use Rattle.dp_viewer.proofs.Replaying.{nothing_shown, shown_leaves, shown_fault}
use Rattle.dp_player.proofs.playing.run_play.Goals as goal

pub returns-then-reads_to_end-clause-leaves : goal.returns-then-reads_to_end-clause-leaves
returns-then-reads_to_end-clause-leaves g c =
    let read = c.read_shown-shown in
    let to_end = c.reads_to_end.ensures.yes c.if-reads_to_end.true in
    shown_leaves (play_way c.args.playing.at) (g.I.Source.left c.args.input.now)
    (g.I.Source.left read.new.input) (g.O.Sink.held c.args.output.now)
    (g.O.Sink.held c.write.new.output)
    (g.O.Sink.faults c.args.output.now) (g.O.Sink.faults c.write.new.output)
    read.result.shown.board read.result.end c.write.result
    (rw (← c.new-shown.ensures.due) read.ensures.told) to_end (read.ensures.to_end to_end)
    c.write.ensures.shown

pub returns-then-reads_to_end-clause-fault : goal.returns-then-reads_to_end-clause-fault
returns-then-reads_to_end-clause-fault g c =
    let read = c.read_shown-shown in
    shown_fault (play_way c.args.playing.at) (g.O.Sink.held c.args.output.now)
    (g.O.Sink.held c.write.new.output)
    (g.I.Source.faults c.args.input.now) (g.I.Source.faults read.new.input)
    (g.O.Sink.faults c.args.output.now) (g.O.Sink.faults c.write.new.output)
    read.result.shown.board read.result.end c.write.result
    read.ensures.fault (c.reads_to_end.ensures.yes c.if-reads_to_end.true)
    c.write.ensures.shown

pub returns-else-reads_to_end-clause-leaves : goal.returns-else-reads_to_end-clause-leaves
returns-else-reads_to_end-clause-leaves g c =
    let read = c.read_shown-shown in
    nothing_shown (play_way c.args.playing.at) (g.I.Source.left c.args.input.now)
    (g.I.Source.left read.new.input) (g.O.Sink.held c.args.output.now)
    (g.I.Source.faults c.args.input.now) (g.I.Source.faults read.new.input)
    read.result.shown.board read.result.end (rw (← c.new-shown.ensures.due) read.ensures.told)
    read.ensures.fault
    (λ to_end. let yes = c.reads_to_end.ensures.no to_end in cc)
