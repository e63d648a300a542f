use Rattle.std.proofs.Common.{◌≡◌, ℕ, ◌+◌, ◌*◌, ◌<◌, length}
use Rattle.std.specs.Prelude.{pos}
use Rattle.dp_blend.specs.Canvas.{pixel_at}
use Rattle.dp_shift.proofs.rows.RowPainterTilePainter.paint.Given as goal

-- the rows so far have the pixels of their places
abbrev pub invariant-loop-j : goal.invariant-loop-j
invariant-loop-j g l =
    (length l.pixels ≡ 4096)
    × ((i k : ℕ) → i < 64 → k < l.j → pixel_at 64 l.pixels i k
    ≡ g.S.RowSource.pixel l.self.source.now (pos (l.col * 64 + i)) (pos (l.row * 64 + k)))
