use Rattle.std.proofs.Common.{◌≡◌, ℕ, ◌<◌, get_or}
use Rattle.dp_blend.specs.Color.{clear}
use Rattle.dp_tile.specs.Tiles.{tile_of}
use Rattle.dp_tile.proofs.row.Row.color.Given as goal

-- the slots so far are of the colour
abbrev pub invariant-loop-slot : goal.invariant-loop-slot
invariant-loop-slot l =
    (k : ℕ) → k < l.slot-index → get_or l.slots k (tile_of clear) ≡ tile_of l.color
