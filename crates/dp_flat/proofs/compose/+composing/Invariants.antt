use Rattle.std.proofs.Common.{◌≡◌, ◌+◌, ◌*◌, ◌-◌, ℕ, take}
use Rattle.dp_pixels.specs.Tiles.{tile_x, tile_y}
use Rattle.dp_flat.specs.Tones.{tone_at}
use Rattle.dp_flat.specs.Composed.{composed_by, IsPlace}
use Rattle.dp_flat.proofs.compose.+composing.Given as goal

abbrev pub decreases-compose_tile : goal.decreases-compose_tile
decreases-compose_tile g l = 2 * l.depth

abbrev pub decreases-lay_row : goal.decreases-lay_row
decreases-lay_row g l = 2 * l.depth + 1

-- at each place the rows before the index are laid on the colour
abbrev pub invariant-compose_tile-loop-row : goal.invariant-compose_tile-loop-row
invariant-compose_tile-loop-row g l =
    (k : ℕ) → IsPlace (g.V.BoardView.board l.board) l.tile k → tone_at l.tone l.buffer k
    ≡ composed_by (g.V.BoardView.board l.board) (l.depth - 1) l.parent
    (take l.row-index l.row-items) (tile_x l.tile.col k) (tile_y l.tile.row k) l.fn.start
