use Rattle.std.proofs.Common.{◌∙◌, ap, sym, subst}
use Rattle.std.specs.Prelude.{All}
use Rattle.dp_blend.specs.Color.{IsPixel}
use Rattle.dp_pixels.specs.Tiles.{tiles_along}
use Rattle.dp_plain.proofs.Pixels.{clear_canvas-All}
use Rattle.dp_tile.specs.Tiles.{grid_pixels}
use Rattle.dp_canvas.proofs.Grids.{clear_grid_pixels}
use Rattle.dp_canvas.proofs.tiled.TiledPixelsLayerPixels.clear.Goals as goal

pub returns-clause-pixels : goal.returns-clause-pixels
returns-clause-pixels g c =
    let w = c.args.width in
    let h = c.args.height in
    ap (grid_pixels w h) c.in_ok-blank_grid.ensures
    ∙ clear_grid_pixels w h (tiles_along w) (tiles_along h)

pub returns-clause-fits : goal.returns-clause-fits
returns-clause-fits g c = (
  record {
    wide = c.requires.wide;
    high = c.requires.high;
    cols = ap (λ g. g.cols) c.in_ok-blank_grid.ensures;
    rows = ap (λ g. g.rows) c.in_ok-blank_grid.ensures;
  },
  subst (All IsPixel) (sym (returns-clause-pixels g c))
      (clear_canvas-All c.args.width c.args.height),
)
