use Rattle.std.proofs.Common.{length, get_or, ◌-◌, ◌+◌, ◌≡◌, ◌<◌, ◌≤◌, ℕ}
use Rattle.dp_blend.specs.Color.{clear}
use Rattle.dp_tile.specs.Tiles.{grid_pixel}
use Rattle.dp_tile.proofs.grid.Grid.copy_part.Given as goal

-- the pixels so far are copied
abbrev pub invariant-loop-done : goal.invariant-loop-done
invariant-loop-done l =
    (length l.part ≡ length l.initial.part) × (l.done ≤ length l.part)
    × ((i : ℕ) → i < l.done → get_or l.part i clear
    ≡ grid_pixel l.self (l.x + i) l.y)

abbrev pub decreases-loop-done : goal.decreases-loop-done
decreases-loop-done l = length l.initial.part - l.done
