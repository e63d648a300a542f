-- Each row of the list is laid at each place, and at the end all of them are.
use Rattle.std.proofs.Common.{◌-◌, length, drop, take, refl, arith}
use Rattle.dp_pixels.specs.Tiles.{tile_x, tile_y}
use Rattle.dp_flat.proofs.Composed.{compose_none, composed_enough}
use Rattle.dp_flat.proofs.compose.+composing.Goals as goal

pub compose_tile-returns-then-depth-eq0 : goal.compose_tile-returns-then-depth-eq0
compose_tile-returns-then-depth-eq0 g t c = λ k place.
    compose_none (g.V.BoardView.board c.args.board.now) c.args.depth c.args.parent
    (tile_x c.args.tile.col k) (tile_y c.args.tile.row k) _ c.if-depth-eq0.true

pub compose_tile-returns : goal.compose_tile-returns
compose_tile-returns g t c = λ k place.
    let rows = c.rows.result.now in
    let first = c.first_to_lay-first.result in
    composed_enough (g.V.BoardView.board c.args.board.now) c.args.depth c.args.parent c.args.tile
    rows (take (length rows - first) (drop first rows)) first c.loop-row.row-index k _ _
    c.first_to_lay-first.ensures.enough (omega arith) c.rows.ensures refl (omega arith) place
    (c.loop-row.invariant k place)
