use Rattle.std.proofs.Common.{◌≡◌, ◌≤◌, take}
use Rattle.std.specs.List.{sum_by}
use Rattle.dp_pixels.specs.Feet.{reach}
use Rattle.dp_tile.specs.Tiles.{grid_pixels}
use Rattle.dp_ops.specs.Lists.{AllCount}
use Rattle.dp_paint.specs.Layers.{layer_pixels}
use Rattle.dp_paint.specs.Jobs.{tiles_waiting}
use Rattle.dp_paint.specs.Painting.{pixels_after_all}
use Rattle.dp_paint.proofs.workers.file_all.Given as goal

-- the commands before the number wait
abbrev pub invariant-loop-command : goal.invariant-loop-command
invariant-loop-command l =
    record {
      number : l.number ≡ l.command-index;
      first : l.lists.first ≡ 0;
      counts : AllCount l.lists;
      pixels : layer_pixels l.on.width l.on.height l.on.commands.now l.lists l.grid
          ≡ pixels_after_all l.on.width l.on.height (take l.command-index l.on.commands.now)
          (grid_pixels l.on.width l.on.height l.grid);
      few : tiles_waiting l.lists 4096 ≤ sum_by reach (take l.command-index l.on.commands.now);
    }
