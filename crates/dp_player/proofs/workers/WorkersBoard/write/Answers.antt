use Rattle.dp_viewer.proofs.Written.{wrote}
use Rattle.dp_player.proofs.workers.WorkersBoard.write.Goals as goal

pub returns-clause-shown : goal.returns-clause-shown
returns-clause-shown g c =
    let wrote_so = c.write_p6_by-written in
    wrote (g.O.Sink.held c.args.output.now) (g.O.Sink.held wrote_so.new.out)
    (g.O.Sink.faults c.args.output.now) (g.O.Sink.faults wrote_so.new.out) c.args.self.board
    c.in-Ok.picture c.args.end c.in-Ok.ensures.replay wrote_so.result c.end_written.result
    wrote_so.ensures.written wrote_so.ensures.prefix wrote_so.ensures.memory
    wrote_so.ensures.memory_uncounted wrote_so.ensures.cause c.end_written.ensures.whole
    c.end_written.ensures.failed c.end_written.ensures.memory
