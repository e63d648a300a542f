-- One row after the other.
use Rattle.std.proofs.Common.{◌+◌, ◌*◌, arith}
use Rattle.dp_drill.specs.Summary.{picture_row}
use Rattle.dp_drill.proofs.Sums.{at-more, row-more}
use Rattle.dp_drill.proofs.summary.sums_of.Goals as goal

pub loop-y-preserved : goal.loop-y-preserved
loop-y-preserved g c =
    let board = g.V.BoardView.board c.args.board.now in
    let y = c.loop-y.y in
    let next = c.with_row-sums.result in record {
      sums = row-more (picture_row board) c.loop-y.sums next y c.loop-y.invariant.sums
          c.with_row-sums.ensures.sums;
      small = at-more (y * 1044480 + 1044480) ((y + 1) * 1044480) next (omega arith)
          (c.with_row-sums.ensures.more (y * 1044480) c.loop-y.invariant.small);
    }
