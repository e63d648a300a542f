use Rattle.std.proofs.Common.{◌≡◌, ℕ, ◌<◌, ◌≤◌}
use Rattle.dp_blend.specs.Color.{clear}
use Rattle.dp_tile.specs.Tiles.{cell_at, tile_of}
use Rattle.dp_shift.proofs.reading.Shown.has_none_in.Given as goal

-- the rows so far are clear
abbrev pub invariant-loop-row : goal.invariant-loop-row
invariant-loop-row l =
    (k j : ℕ) → l.area.left ≤ k → k < l.area.right → l.area.top ≤ j → j < l.row
    → cell_at l.self.grid.now k j ≡ tile_of clear
