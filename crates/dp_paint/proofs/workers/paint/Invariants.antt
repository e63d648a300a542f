use Rattle.std.proofs.Common.{◌≡◌, ◌+◌, ◌-◌, ◌≤◌, length, take}
use Rattle.std.specs.List.{sum_by}
use Rattle.dp_pixels.specs.Feet.{reach}
use Rattle.dp_tile.specs.Tiles.{grid_pixels}
use Rattle.dp_shift.specs.Grids.{IsGridOf}
use Rattle.dp_paint.specs.Painting.{pixels_after_all}
use Rattle.dp_paint.proofs.workers.paint.Given as goal

-- the commands so far are painted
abbrev pub invariant-loop-done : goal.invariant-loop-done
invariant-loop-done g l =
    record {
      inside : l.done ≤ length l.ops;
      grid : IsGridOf l.width l.height l.painted;
      pixels : grid_pixels l.width l.height l.painted
          ≡ pixels_after_all l.width l.height (take l.done l.ops)
          (grid_pixels l.width l.height l.grid);
      rise : l.initial.tiles ≤ l.tiles;
      few : l.tiles ≤ l.initial.tiles + sum_by reach (take l.done l.ops);
    }

abbrev pub decreases-loop-done : goal.decreases-loop-done
decreases-loop-done g l = length l.ops - l.done
