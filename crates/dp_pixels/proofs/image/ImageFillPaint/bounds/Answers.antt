use Rattle.std.proofs.Common.{ℕ, Option, ap, ◌∙◌, sym}
use Rattle.std.specs.Prelude.{pos, slice_get, None}
use Rattle.std.specs.Option.{option_map_or}
use Rattle.std.proofs.lemmas.Bool.{cond-false}
use Rattle.dp_blend.specs.Color.{of_argb}
use Rattle.dp_blend.specs.Blending.{blend}
use Rattle.dp_pixels.specs.declared.rect.Rect.{Rect}
use Rattle.dp_pixels.specs.Rectangles.{is_in, rect_at}
use Rattle.dp_pixels.specs.Commands.{image_index}
use Rattle.dp_pixels.proofs.image.ImageFillPaint.bounds.Goals as goal

pub returns-clause-stays : goal.returns-clause-stays
returns-clause-stays c = λ x y old out.
    let fill = c.args.self.now in
    let image = fill.image in
    let outside = sym (ap (λ (r : Rect). is_in r x y) c.rect.ensures) ∙ out in
    ap (λ (color : Option ℕ). option_map_or (λ n. blend fill.mode (of_argb n) old) color old)
    (cond-false (is_in (rect_at (pos image.x) (pos image.y) image.w image.h) x y)
    (slice_get image.colors.now (image_index (pos image.x) (pos image.y) image.w x y)) None outside)
