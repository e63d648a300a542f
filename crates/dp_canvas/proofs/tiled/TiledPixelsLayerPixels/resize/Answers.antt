use Rattle.std.proofs.Common.{◌∙◌, ap, subst, sym}
use Rattle.std.specs.Prelude.{All}
use Rattle.dp_blend.specs.Color.{IsPixel}
use Rattle.dp_pixels.specs.Resizes.{pixels_resized}
use Rattle.dp_plain.proofs.Pixels.{pixels_shifted-All}
use Rattle.dp_tile.specs.Tiles.{grid_pixels}
use Rattle.dp_canvas.proofs.tiled.TiledPixelsLayerPixels.resize.Goals as goal

pub returns-clause-pixels : goal.returns-clause-pixels
returns-clause-pixels g c =
    let r = c.args.change in
    c.in_ok-resized_grid.ensures.resized.pixels
    ∙ ap (λ g. pixels_resized r (grid_pixels r.width r.height g)) c.self.view_is

pub returns-clause-fits : goal.returns-clause-fits
returns-clause-fits g c =
    let r = c.args.change in (
      c.in_ok-resized_grid.ensures.resized.of,
      subst (All IsPixel) (sym (returns-clause-pixels g c))
          (pixels_shifted-All r.width r.height (grid_pixels r.width r.height c.args.self.now)
          r.new_width r.new_height r.left r.top c.requires.fits.1),
    )
