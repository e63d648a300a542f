use Rattle.std.proofs.Common.{subst}
use Rattle.dp_pixels.specs.Tiles.{ShowsTile}
use Rattle.dp_tile.specs.Tiles.{TileGrid, grid_pixels}
use Rattle.dp_canvas.proofs.Shown.{shown_tile}
use Rattle.dp_canvas.proofs.tiled.TiledPixelsLayerPixels.tile.Goals as goal

pub returns : goal.returns
returns c =
    let w = c.args._width in
    let h = c.args._height in
    subst (λ (g : TileGrid). ShowsTile w h (grid_pixels w h g) c.args.col c.args.row
    c.read_tile.result c.read_tile.new.pixels) c.self.view_is
    (shown_tile w h c.self.inside.grid c.args.col c.args.row c.read_tile.result
    c.read_tile.new.pixels c.read_tile.ensures.color c.read_tile.ensures.pixels)
