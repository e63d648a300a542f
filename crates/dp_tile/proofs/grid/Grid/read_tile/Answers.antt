use Rattle.std.proofs.Common.{◌∙◌}
use Rattle.dp_tile.proofs.Rows.{cell_of_view}
use Rattle.dp_tile.proofs.grid.Grid.read_tile.Goals as goal

pub returns-clause-color : goal.returns-clause-color
returns-clause-color c = rw (← (c.at-slot.ensures
    ∙ cell_of_view _ _ _ _ _ _ c.self.view_is c.self.invariant c.requires.col c.requires.row))
    c.read.ensures.color

pub returns-clause-pixels : goal.returns-clause-pixels
returns-clause-pixels c = rw (← (c.at-slot.ensures
    ∙ cell_of_view _ _ _ _ _ _ c.self.view_is c.self.invariant c.requires.col c.requires.row))
    c.read.ensures.pixels
