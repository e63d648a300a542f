use Rattle.std.proofs.Common.{◌≡◌, ℕ, ◌*◌, ◌<◌, get_or}
use Rattle.dp_blend.specs.Color.{clear}
use Rattle.dp_blend.specs.Canvas.{pixel_at}
use Rattle.dp_pixels.specs.Tiles.{tile_x, tile_y}
use Rattle.dp_layered.proofs.plain.PlainPixelsLayerPixels.tile.Given as goal

-- the rows of the tile before this one are read
abbrev pub invariant-loop-j : goal.invariant-loop-j
invariant-loop-j l = (k : ℕ) → k < l.j * 64 → tile_x l.col k < l.width
    → get_or l.buffer k clear ≡ pixel_at l.width l.self (tile_x l.col k) (tile_y l.row k)
