use Rattle.std.proofs.Common.{◌∙◌, ◌<◌, ap, sym, subst, arith}
use Rattle.std.proofs.lemmas.Result.{on_ok_weaker}
use Rattle.dp_tile.specs.Tiles.{TileGrid, cell_at, grid_of_rows, tiles_for}
use Rattle.dp_tile.proofs.CellByCell.{both_ok, cell_same}
use Rattle.dp_tile.proofs.Rows.{cell_of_view, is_grid_of_rows, with_cell_of_rows, with_cell_of_view}
use Rattle.dp_tile.proofs.grid.Grid.paint.Goals as goal

pub returns-clause-painted : goal.returns-clause-painted
returns-clause-painted g c =
    let cell = cell_of_view _ _ _ _ _ _ c.self.view_is c.self.invariant c.requires.col
    c.requires.row
    in
    on_ok_weaker c.paint.result
    (λ painted. ap (grid_of_rows c.self.inside.cols c.self.inside.rows) painted
    ∙ (rw (← cell) (with_cell_of_view _ _ _ _ _ _ _ c.self.view_is c.self.invariant c.requires.col
    c.requires.row))) c.paint.ensures.painted

pub returns-clause-few_shown : goal.returns-clause-few_shown
returns-clause-few_shown g c =
    let cols = c.self.inside.cols in
    let rows = c.self.inside.rows in
    let all = c.self.inside.cells in
    let col = c.args.col in
    let row = c.args.row in
    let in_cols : col < cols = subst (λ (h : TileGrid). col < h.cols) (sym c.self.view_is)
    c.requires.col in
    let in_rows : row < rows = subst (λ (h : TileGrid). row < h.rows) (sym c.self.view_is)
    c.requires.row in
    both_ok c.paint.result
    (λ put few. omega (
      arith,
      few,
      ap tiles_for
          (ap (λ cells. cell_at (grid_of_rows cols rows cells) col row) put
          ∙ ap (λ h. cell_at h col row)
          (with_cell_of_rows cols rows all col row _ c.self.invariant in_cols in_rows)
          ∙ cell_same (grid_of_rows cols rows all)
          (is_grid_of_rows cols rows all c.self.invariant) col row _ in_cols in_rows),
    )) c.paint.ensures.painted c.paint.ensures.few_shown
