use Rattle.std.proofs.Common.{◌+◌, ◌-◌, ◌*◌, ◌≤◌}
use Rattle.dp_tile.specs.Areas.{IsUpTo, shown_in}
use Rattle.dp_tile.proofs.grid.Grid.paint_each.Given as goal

-- the rows of the area before the row are painted
abbrev pub invariant-loop-row : goal.invariant-loop-row
invariant-loop-row g l =
    record {
      painted : IsUpTo (g.P.TilePainter.painted l.painter) l.area l.row l.initial.self l.self;
      rise : l.initial.tiles ≤ l.tiles;
      few : l.tiles ≤ l.initial.tiles + (l.row - l.area.top) * (l.area.right - l.area.left);
      shown : l.tiles ≤ l.initial.tiles + shown_in (record l.area { bottom = l.row }) l.self;
    }
