use Rattle.std.proofs.Common.{◌∙◌, ap}
use Rattle.std.proofs.lemmas.Result.{on_ok_weaker}
use Rattle.dp_tile.specs.Tiles.{grid_of_rows}
use Rattle.dp_tile.proofs.Rows.{with_cell_of_view}
use Rattle.dp_tile.proofs.grid.Grid.write.Goals as goal

pub returns-clause-written : goal.returns-clause-written
returns-clause-written c =
    on_ok_weaker c.put.result
    (λ written. ap (grid_of_rows c.self.inside.cols c.self.inside.rows) written
    ∙ (rw c.in_ok-slot.ensures (with_cell_of_view _ _ _ _ _ _ c.args.tile c.self.view_is
    c.self.invariant c.requires.col c.requires.row))) c.put.ensures.written
