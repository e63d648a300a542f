use Rattle.std.proofs.Common.{◌+◌, ◌-◌, ◌≤◌}
use Rattle.dp_tile.specs.Areas.{IsRowPainted, shown_in_row}
use Rattle.dp_tile.proofs.grid.Grid.paint_row.Given as goal

-- the cells of the row before the column are painted
abbrev pub invariant-loop-col : goal.invariant-loop-col
invariant-loop-col g l =
    record {
      painted : IsRowPainted (g.P.TilePainter.painted l.painter) l.row l.left l.col l.initial.self
          l.self;
      rise : l.initial.tiles ≤ l.tiles;
      few : l.tiles ≤ l.initial.tiles + (l.col - l.left);
      shown : l.tiles ≤ l.initial.tiles + shown_in_row l.left l.col l.row l.self;
    }
