-- The root's rows are composed on the background.
use Rattle.std.proofs.Common.{ap, ◌∙◌, arith}
use Rattle.dp_blend.specs.Blending.{blend}
use Rattle.dp_blend.specs.Color.{Channels, of_argb, white}
use Rattle.dp_blend.specs.declared.modes.Mode.TheVariants.{Normal}
use Rattle.dp_layers.specs.Layers.{nesting_limit}
use Rattle.dp_layers.specs.Rows.{layers_of}
use Rattle.dp_pixels.specs.Tiles.{tile_x, tile_y}
use Rattle.dp_plain.specs.Picture.{compose, row_pixel}
use Rattle.dp_flat.proofs.Composed.{tone_prefix}
use Rattle.dp_flat.proofs.compose.draw_tile.Goals as goal

pub returns : goal.returns
returns g c = λ k place.
    let board = g.V.BoardView.board c.args.board.now in
    let x = tile_x c.args.tile.col k in
    let y = tile_y c.args.tile.row k in
    ap (λ (p : Channels). blend Normal p white)
    (tone_prefix c.compose_tile.result c.compose_tile.new.buffer c.compose_tile.new.levels k
    (omega arith)
    ∙ c.compose_tile.ensures k place
    ∙ c.requires.deep x y c.of_argb-start.result
    ∙ ap (λ (start : Channels).
    compose nesting_limit (row_pixel board x y) (layers_of board.rows) 0 start)
    (c.of_argb-start.ensures.value ∙ ap of_argb c.background.ensures))
