use Rattle.std.proofs.Common.{◌≡◌, ℕ, ◌+◌, ◌%◌, ◌<◌, length, get_or, cond, ltb}
use Rattle.dp_blend.specs.Color.{Channels}
use Rattle.dp_pixels.specs.Tiles.{replaced_by}
use Rattle.dp_pixels.proofs.TileLemmas.{no_pixel}
use Rattle.dp_pixels.proofs.tiles.put_tile_row.Given as goal

-- the pixels before index k are put, and the others are as they were
abbrev pub invariant-loop-k : goal.invariant-loop-k
invariant-loop-k l = (k : ℕ) (d : Channels) → k < length l.row
    → get_or l.row k d ≡ cond (ltb k l.k) (replaced_by (get_or l.pixels ((l.x + k) % 64) no_pixel)
    (get_or l.initial.row k d)) (get_or l.initial.row k d)
