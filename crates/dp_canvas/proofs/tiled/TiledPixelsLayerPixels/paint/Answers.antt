use Rattle.std.proofs.Common.{◌∙◌, ap, subst, sym}
use Rattle.std.specs.Prelude.{All}
use Rattle.std.proofs.lemmas.Result.{on_err_weaker, on_ok_weaker}
use Rattle.dp_blend.specs.Color.{IsPixel}
use Rattle.dp_pixels.specs.Commands.{pixels_after}
use Rattle.dp_plain.proofs.Pixels.{pixels_after-All}
use Rattle.dp_tile.specs.Tiles.{grid_pixels}
use Rattle.dp_canvas.proofs.Grids.{on_ok_both}
use Rattle.dp_canvas.proofs.tiled.TiledPixelsLayerPixels.paint.Goals as goal

pub returns-in-MoveRect-clause-pixels : goal.returns-in-MoveRect-clause-pixels
returns-in-MoveRect-clause-pixels g c =
    let w = c.args.width in
    let h = c.args.height in
    on_ok_weaker c.move_in_place.result
    (λ is. is ∙ ap (λ g. pixels_after w h c.args.command.now (grid_pixels w h g)) c.self.view_is)
    c.move_in_place.ensures.pixels

pub returns-in-MoveRect-clause-fits : goal.returns-in-MoveRect-clause-fits
returns-in-MoveRect-clause-fits g c =
    let w = c.args.width in
    let h = c.args.height in
    on_ok_both c.move_in_place.result _ _ _
    (λ grid pixels. (
      grid,
      subst (All IsPixel) (sym pixels)
          (pixels_after-All c.pixels_stay_pixels.ensures w h c.args.command.now
          (grid_pixels w h c.args.self.now) c.known_colors.ensures c.requires.fits.1),
    ))
    c.move_in_place.ensures.grid (returns-in-MoveRect-clause-pixels g c)

pub returns-in_default : goal.returns-in_default
returns-in_default g c =
    let w = c.args.width in
    let h = c.args.height in
    let pixels = on_ok_weaker c.paint_in_place.result
    (λ is. is ∙ ap (λ g. pixels_after w h c.args.command.now (grid_pixels w h g)) c.self.view_is)
    c.paint_in_place.ensures.pixels in
    record {
      fits =
          on_ok_both c.paint_in_place.result _ _ _
          (λ grid pixels. (
            grid,
            subst (All IsPixel) (sym pixels)
                (pixels_after-All c.pixels_stay_pixels.ensures w h c.args.command.now
                (grid_pixels w h c.args.self.now) c.known_colors.ensures c.requires.fits.1),
          ))
          c.paint_in_place.ensures.grid pixels;
      pixels = pixels;
      err =
          on_err_weaker c.paint_in_place.result (λ is. is ∙ c.self.view_is)
          c.paint_in_place.ensures.err;
      tiles_rise = c.paint_in_place.ensures.tiles_rise;
      few_tiles = c.paint_in_place.ensures.few_tiles;
    }
