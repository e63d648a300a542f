use Rattle.dp_tile.proofs.CellByCell.{shown_at_most}
use Rattle.dp_tile.proofs.laws.an_area_shows_at_most_its_grid.Goals as goal

pub returns : goal.returns
returns c = λ g area is. shown_at_most g is area
