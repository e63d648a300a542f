use Rattle.std.proofs.Common.{◌≡◌, ◌∙◌}
use Rattle.dp_tile.specs.Tiles.{cell_at}
use Rattle.dp_tile.proofs.Rows.{cell_of_view}
use Rattle.dp_tile.proofs.grid.Grid.tile.Goals as goal

the_cell : (c : goal.After-tile)
    → c.at-slot.result.now ≡ cell_at c.args.self.now c.args.col c.args.row
the_cell c =
    c.at-slot.ensures
    ∙ cell_of_view _ _ _ _ _ _ c.self.view_is c.self.invariant c.requires.col c.requires.row

pub returns-clause-pixels : goal.returns-clause-pixels
returns-clause-pixels c = rw (← the_cell c) c.tile.ensures.pixels

pub returns-clause-none : goal.returns-clause-none
returns-clause-none c = rw (← the_cell c) c.tile.ensures.none
