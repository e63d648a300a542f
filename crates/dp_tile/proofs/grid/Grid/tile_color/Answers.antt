use Rattle.std.proofs.Common.{◌∙◌}
use Rattle.dp_tile.proofs.Rows.{cell_of_view}
use Rattle.dp_tile.proofs.grid.Grid.tile_color.Goals as goal

pub returns : goal.returns
returns c = rw (← (c.at-slot.ensures
    ∙ cell_of_view _ _ _ _ _ _ c.self.view_is c.self.invariant c.requires.col c.requires.row))
    c.color.ensures
