use Rattle.std.proofs.Common.{◌+◌, ◌≤◌}
use Rattle.dp_paint.specs.Jobs.{AreMade}
use Rattle.dp_ops.specs.Lists.{waiting_tile}
use Rattle.dp_paint.specs.Jobs.{tiles_waiting}
use Rattle.dp_paint.proofs.jobs.make_jobs.Given as goal

-- the tiles of the numbers before this one are painted, or have jobs
abbrev pub invariant-loop-number : goal.invariant-loop-number
invariant-loop-number g l =
    record {
      made : AreMade (waiting_tile l.painter.on.width l.painter.on.height
          l.painter.on.commands.now l.painter.lists.now) l.first l.number l.grid l.work.grid
          l.work.jobs.items;
      rise : l.initial.tiles ≤ l.tiles;
      few : l.tiles + tiles_waiting l.painter.lists.now l.first
          ≤ l.initial.tiles + tiles_waiting l.painter.lists.now l.number;
    }
