use Rattle.std.proofs.Common.{◌≡◌, ◌/◌, ◌<◌, ◌∙◌, arith}
use Rattle.dp_tile.specs.Tiles.{cell_at}
use Rattle.dp_tile.proofs.Rows.{cell_of_view}
use Rattle.dp_tile.proofs.grid.Grid.get.Goals as goal

pub returns : goal.returns
returns c =
    let g = c.args.self.now in
    let in_cols : c.args.x / 64 < g.cols = omega (arith, c.requires.x) in
    let in_rows : c.args.y / 64 < g.rows = omega (arith, c.requires.y) in
    let cell : c.at-slot.result.now ≡ cell_at g (c.args.x / 64) (c.args.y / 64)
    = c.at-slot.ensures ∙ cell_of_view _ _ _ g _ _ c.self.view_is c.self.invariant in_cols in_rows
    in
    rw (← cell) c.get.ensures
