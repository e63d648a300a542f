use Rattle.std.proofs.Common.{arith}
use Rattle.dp_ops.specs.Lists.{IsFinished}
use Rattle.dp_ops.proofs.Waits.{row_next, row_none}
use Rattle.dp_ops.proofs.lists.TileLists.finish_row.Goals as goal

pub loop-col-init : goal.loop-col-init
loop-col-init c = row_none (IsFinished c.args.how) c.args.row c.args.left c.args.self.now

pub loop-col-preserved : goal.loop-col-preserved
loop-col-preserved c =
    row_next (IsFinished c.args.how) c.args.row c.args.left c.loop-col.col c.args.self.now
    c.loop-col.self c.finish_at.new.self (omega (arith, c.loop-col.auto.col))
    (omega (arith, c.loop-col-test.true, c.requires.cols)) c.loop-col.invariant c.finish_at.ensures
