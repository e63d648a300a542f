use Rattle.dp_tile.proofs.Rows.{is_rows-clear, grid_of_clear_rows}
use Rattle.dp_tile.proofs.grid.Grid.new.Goals as goal

pub invariant_of-result : goal.invariant_of-result
invariant_of-result c =
    rw c.in_ok-cells.ensures (is_rows-clear c.args.cols c.args.rows c.requires.cols c.requires.rows)

pub returns : goal.returns
returns c = rw c.in_ok-cells.ensures (grid_of_clear_rows c.args.cols c.args.rows)
