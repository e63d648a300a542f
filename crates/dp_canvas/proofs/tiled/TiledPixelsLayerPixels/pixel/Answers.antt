use Rattle.std.proofs.Common.{◌∙◌, ap, sym}
use Rattle.dp_blend.specs.Canvas.{pixel_at}
use Rattle.dp_blend.proofs.Canvas.{pixel_at-canvas_of}
use Rattle.dp_tile.specs.Tiles.{grid_pixel, grid_pixels}
use Rattle.dp_canvas.proofs.tiled.TiledPixelsLayerPixels.pixel.Goals as goal

pub returns : goal.returns
returns c =
    let w = c.args._width in
    let h = c.args._height in
    c.get.ensures
    ∙ sym (pixel_at-canvas_of w h (grid_pixel c.self.inside.grid) c.args.x c.args.y
    c.requires.inside.0 c.requires.inside.1)
    ∙ ap (λ g. pixel_at w (grid_pixels w h g) c.args.x c.args.y) c.self.view_is
