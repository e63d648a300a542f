use Rattle.std.proofs.Common.{Some, [], subst}
use Rattle.std.specs.Prelude.{IfSome}
use Rattle.dp_pixels.specs.Tiles.{ShowsTile}
use Rattle.dp_tile.specs.Tiles.{TileGrid, grid_pixels}
use Rattle.dp_canvas.proofs.Shown.{shown_color}
use Rattle.dp_canvas.proofs.tiled.TiledPixelsLayerPixels.tile_color.Goals as goal

pub returns : goal.returns
returns c =
    let w = c.args._width in
    let h = c.args._height in
    subst (λ (g : TileGrid). IfSome c.tile_color.result (λ p.
    ShowsTile w h (grid_pixels w h g) c.args.col c.args.row (Some p) [])) c.self.view_is
    (shown_color w h c.self.inside.grid c.args.col c.args.row c.tile_color.result
    c.tile_color.ensures)
