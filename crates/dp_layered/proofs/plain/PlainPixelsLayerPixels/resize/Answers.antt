use Rattle.std.proofs.Common.{◌∙◌, ap, sym, subst, length, List}
use Rattle.std.specs.Prelude.{All}
use Rattle.dp_blend.specs.Color.{Channels, IsPixel}
use Rattle.dp_blend.proofs.Canvas.{length-canvas_of}
use Rattle.dp_pixels.specs.Resizes.{pixels_resized}
use Rattle.dp_plain.proofs.Pixels.{pixels_shifted-All}
use Rattle.dp_layered.proofs.plain.PlainPixelsLayerPixels.resize.Goals as goal

pub returns-clause-fits : goal.returns-clause-fits
returns-clause-fits g c =
    let change = c.args.change in
    let is = c.in_ok-moved_pixels.ensures
    ∙ ap (pixels_resized change) (c.deref.ensures.value ∙ c.self.view_is) in (
      ap (λ (pixels : List Channels). length pixels) is
          ∙ length-canvas_of change.new_width change.new_height _,
      subst (All IsPixel) (sym is)
          (pixels_shifted-All change.width change.height c.args.self.now change.new_width
          change.new_height change.left change.top c.requires.fits.1),
    )
