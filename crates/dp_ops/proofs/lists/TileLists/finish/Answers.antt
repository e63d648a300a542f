use Rattle.std.proofs.Common.{arith}
use Rattle.dp_ops.specs.Lists.{IsFinished}
use Rattle.dp_ops.proofs.Waits.{rows_next, rows_none}
use Rattle.dp_ops.proofs.lists.TileLists.finish.Goals as goal

pub loop-row-init : goal.loop-row-init
loop-row-init c = rows_none (IsFinished c.args.how) c.args.area c.args.self.now

pub loop-row-preserved : goal.loop-row-preserved
loop-row-preserved c =
    rows_next (IsFinished c.args.how) c.args.area c.loop-row.row c.args.self.now
    c.loop-row.self c.finish_row.new.self (omega (arith, c.loop-row.auto.row)) c.requires.cols
    c.loop-row.invariant c.finish_row.ensures
