use Rattle.std.proofs.Common.{◌∙◌, ap, length}
use Rattle.dp_blend.specs.Canvas.{part_of_row}
use Rattle.dp_tile.specs.Tiles.{grid_pixels}
use Rattle.dp_canvas.proofs.Grids.{part_of_pixels}
use Rattle.dp_canvas.proofs.tiled.TiledPixelsLayerPixels.copy_part.Goals as goal

pub returns : goal.returns
returns c =
    let w = c.args._width in
    let h = c.args._height in
    let n = length c.args.part.now in
    c.copy_part.ensures
    ∙ part_of_pixels w h c.self.inside.grid c.args.x c.args.y n c.requires.within c.requires.inside
    ∙ ap (λ g. part_of_row w (grid_pixels w h g) c.args.x c.args.y n) c.self.view_is
