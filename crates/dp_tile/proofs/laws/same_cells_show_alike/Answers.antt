use Rattle.dp_tile.proofs.CellByCell.{shown_same}
use Rattle.dp_tile.proofs.laws.same_cells_show_alike.Goals as goal

pub returns : goal.returns
returns c = shown_same
