use Rattle.std.proofs.Common.{◌≡◌, ℕ, ◌<◌, ◌≤◌}
use Rattle.dp_blend.specs.Color.{clear}
use Rattle.dp_tile.specs.Tiles.{cell_at, tile_of}
use Rattle.dp_shift.proofs.reading.Shown.has_no_tile.Given as goal

-- the cells so far are clear
abbrev pub invariant-loop-col : goal.invariant-loop-col
invariant-loop-col l =
    (k : ℕ) → l.left ≤ k → k < l.col → cell_at l.self.grid.now k l.row ≡ tile_of clear
