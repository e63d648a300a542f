use Rattle.std.proofs.Common.{◌≡◌, ◌/◌, ◌%◌, ◌<◌, ◌∙◌, ap, arith, subst}
use Rattle.dp_blend.specs.Stretches.{IsStretch}
use Rattle.dp_blend.specs.Canvas.{part_of_row}
use Rattle.dp_tile.specs.Tiles.{cell_at}
use Rattle.dp_tile.proofs.Rows.{cell_of_view}
use Rattle.dp_tile.proofs.Stretches.{part_of_cell}
use Rattle.dp_tile.proofs.grid.Grid.stretch.Goals as goal

pub returns : goal.returns
returns c =
    let g = c.args.self.now in
    let x = c.args.x in
    let y = c.args.y in
    let in_cols : x / 64 < g.cols = omega (arith, c.requires.x) in
    let in_rows : y / 64 < g.rows = omega (arith, c.requires.y) in
    let cell : c.at-slot.result.now ≡ cell_at g (x / 64) (y / 64)
    = c.at-slot.ensures ∙ cell_of_view _ _ _ g _ _ c.self.view_is c.self.invariant in_cols in_rows
    in
    subst (IsStretch c.stretch.result)
    (ap (λ cell. part_of_row 64 cell (x % 64) (y % 64) c.args.count) cell
    ∙ part_of_cell g x y c.args.count c.requires.one_tile)
    c.stretch.ensures
