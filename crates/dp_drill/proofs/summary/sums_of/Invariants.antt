use Rattle.std.proofs.Common.{◌≡◌, ◌*◌}
use Rattle.std.specs.List.{flat_map}
use Rattle.dp_blend.specs.Canvas.{below}
use Rattle.dp_drill.specs.Summary.{AreAtMost, picture_row, sums_of}
use Rattle.dp_drill.proofs.summary.sums_of.Given as goal

-- the rows above are counted
abbrev pub invariant-loop-y : goal.invariant-loop-y
invariant-loop-y g l = record {
  sums : l.sums ≡ sums_of (flat_map (picture_row (g.V.BoardView.board l.board)) (below l.y));
  small : AreAtMost (l.y * 1044480) l.sums;
}
