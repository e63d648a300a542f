-- The tile shows the row's pixels.
use Rattle.std.proofs.Common.{◌∙◌}
use Rattle.dp_pixels.specs.Tiles.{tile_x, tile_y}
use Rattle.dp_flat.proofs.Composed.{shown_paint}
use Rattle.dp_flat.proofs.compose.read_tile.Goals as goal

pub returns : goal.returns
returns g c = λ depth k place.
    let board = g.V.BoardView.board c.args.board.now in
    c.of.ensures c.tile.new.buffer k
    ∙ c.tile.ensures k place.count place.across place.down
    ∙ shown_paint board depth c.args.row.now (tile_x c.args.tile.col k) (tile_y c.args.tile.row k)
    c.requires.paint
