use Rattle.std.proofs.Common.{◌∙◌, sym, ap, length, subst}
use Rattle.std.specs.Prelude.{All}
use Rattle.dp_blend.specs.Color.{IsPixel, clear}
use Rattle.dp_blend.proofs.Canvas.{length-canvas_of}
use Rattle.dp_layered.proofs.Moves.{replicate-canvas}
use Rattle.dp_plain.proofs.Pixels.{clear_canvas-All}
use Rattle.dp_layered.proofs.plain.PlainPixelsLayerPixels.clear.Goals as goal

pub returns-clause-pixels : goal.returns-clause-pixels
returns-clause-pixels g c = c.in_ok-vec.ensures.items_if_clones_equal (λ y same. same)
    ∙ replicate-canvas c.args.width c.args.height clear

pub returns-clause-fits : goal.returns-clause-fits
returns-clause-fits g c =
    let w = c.args.width in
    let h = c.args.height in
    let is = returns-clause-pixels g c in (
      ap length is ∙ length-canvas_of w h (λ x y. clear),
      subst (All IsPixel) (sym is) (clear_canvas-All w h),
    )
