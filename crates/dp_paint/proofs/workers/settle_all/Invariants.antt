use Rattle.std.proofs.Common.{◌≡◌, ◌+◌, ◌*◌, ◌<◌, ◌≤◌, ℕ, []}
use Rattle.dp_ops.specs.Lists.{AllCount, listed_at}
use Rattle.dp_paint.specs.Layers.{layer_pixels}
use Rattle.dp_paint.specs.Jobs.{tiles_waiting}
use Rattle.dp_shift.specs.Grids.{IsGridOf}
use Rattle.dp_paint.proofs.workers.settle_all.Given as goal

-- what waited on the bands before this one is painted, and what waits on the others is the same
abbrev pub invariant-loop-band : goal.invariant-loop-band
invariant-loop-band g l =
    record {
      grid : IsGridOf l.on.width l.on.height l.grid;
      first : l.lists.first ≡ 0;
      counts : AllCount l.lists;
      same : layer_pixels l.on.width l.on.height l.on.commands.now l.lists l.grid
          ≡ layer_pixels l.on.width l.on.height l.on.commands.now l.initial.lists l.initial.grid;
      none : (col row : ℕ) → col < 64 → row < l.band * 8 → listed_at l.lists col row ≡ [];
      rest : (col row : ℕ) → col < 64 → l.band * 8 ≤ row
          → listed_at l.lists col row ≡ listed_at l.initial.lists col row;
      rise : l.initial.tiles ≤ l.tiles;
      few : l.tiles ≤ l.initial.tiles + tiles_waiting l.initial.lists (l.band * 512);
    }
