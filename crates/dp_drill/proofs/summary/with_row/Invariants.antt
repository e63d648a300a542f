use Rattle.std.proofs.Common.{◌≡◌, ℕ, ◌+◌, ◌*◌, map}
use Rattle.dp_blend.specs.Canvas.{below}
use Rattle.dp_plain.specs.Picture.{seen}
use Rattle.dp_drill.specs.Summary.{AreAtMost, plus, sums_of}
use Rattle.dp_drill.proofs.summary.with_row.Given as goal

-- the pixels to the left are counted
abbrev pub invariant-loop-x : goal.invariant-loop-x
invariant-loop-x g l = record {
  sums : l.sums ≡ plus l.fn.before
      (sums_of (map (λ x. seen (g.V.BoardView.board l.board) x l.y) (below l.x)));
  small : (most : ℕ) → AreAtMost most l.fn.before → AreAtMost (most + l.x * 255) l.sums;
}
