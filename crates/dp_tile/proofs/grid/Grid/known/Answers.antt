use Rattle.dp_tile.proofs.Rows.{is_grid_of_rows}
use Rattle.dp_tile.proofs.grid.Grid.known.Goals as goal

pub returns : goal.returns
returns c = rw (← c.self.view_is) (is_grid_of_rows _ _ _ c.self.invariant)
