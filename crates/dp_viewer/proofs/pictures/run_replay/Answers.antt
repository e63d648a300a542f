use Rattle.dp_viewer.specs.Ways.{replay_way}
use Rattle.dp_viewer.proofs.Replaying.{nothing_shown, shown_leaves, shown_fault}
use Rattle.dp_viewer.proofs.pictures.run_replay.Goals as goal

pub returns-then-reads_to_end-clause-leaves : goal.returns-then-reads_to_end-clause-leaves
returns-then-reads_to_end-clause-leaves g c =
    let read = c.read_frames-board in
    let to_end = c.reads_to_end.ensures.yes c.if-reads_to_end.true in
    shown_leaves replay_way (g.I.Source.left c.args.input.now)
    (g.I.Source.left read.new.input) (g.O.Sink.held c.args.output.now)
    (g.O.Sink.held c.write_shown.new.output)
    (g.O.Sink.faults c.args.output.now) (g.O.Sink.faults c.write_shown.new.output)
    read.result.board read.result.end c.write_shown.result read.ensures.told to_end
    (read.ensures.to_end to_end) c.write_shown.ensures.shown

pub returns-then-reads_to_end-clause-fault : goal.returns-then-reads_to_end-clause-fault
returns-then-reads_to_end-clause-fault g c =
    let read = c.read_frames-board in
    shown_fault replay_way (g.O.Sink.held c.args.output.now)
    (g.O.Sink.held c.write_shown.new.output)
    (g.I.Source.faults c.args.input.now) (g.I.Source.faults read.new.input)
    (g.O.Sink.faults c.args.output.now) (g.O.Sink.faults c.write_shown.new.output)
    read.result.board read.result.end c.write_shown.result
    read.ensures.fault (c.reads_to_end.ensures.yes c.if-reads_to_end.true)
    c.write_shown.ensures.shown

pub returns-else-reads_to_end-clause-leaves : goal.returns-else-reads_to_end-clause-leaves
returns-else-reads_to_end-clause-leaves g c =
    let read = c.read_frames-board in
    nothing_shown replay_way (g.I.Source.left c.args.input.now)
    (g.I.Source.left read.new.input) (g.O.Sink.held c.args.output.now)
    (g.I.Source.faults c.args.input.now) (g.I.Source.faults read.new.input)
    read.result.board read.result.end read.ensures.told read.ensures.fault
    (λ to_end. let yes = c.reads_to_end.ensures.no to_end in cc)
