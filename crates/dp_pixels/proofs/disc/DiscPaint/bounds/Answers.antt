use Rattle.std.proofs.Common.{ap, ◌∙◌, sym}
use Rattle.std.specs.Prelude.{◌-ℤ◌}
use Rattle.std.proofs.lemmas.Bool.{cond-false, and_left}
use Rattle.dp_blend.specs.Blending.{blend}
use Rattle.dp_pixels.specs.declared.rect.Rect.{Rect}
use Rattle.dp_pixels.specs.declared.dabs.Shape.TheVariants.{Round}
use Rattle.dp_pixels.specs.Rectangles.{is_in}
use Rattle.dp_pixels.specs.Dabs.{dab_rect, dab_covers, is_in_disc}
use Rattle.dp_pixels.proofs.disc.DiscPaint.bounds.Goals as goal

pub returns-clause-stays : goal.returns-clause-stays
returns-clause-stays c = λ x y old out.
    let disc = c.args.self.now in
    let square = dab_rect disc.dab in
    let outside = sym (ap (λ (r : Rect). is_in r x y) c.rect.ensures) ∙ out in
    cond-false (dab_covers Round disc.dab x y) (blend disc.mode disc.source old) old
    (and_left (is_in square x y) (is_in_disc disc.dab.size (x -ℤ square.x0) (y -ℤ square.y0))
    outside)
