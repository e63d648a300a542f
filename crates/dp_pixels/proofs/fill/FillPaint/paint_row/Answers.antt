use Rattle.std.proofs.Common.{length, get_or, ◌∙◌, sym}
use Rattle.std.specs.Prelude.{pos, ◌+ℤ◌}
use Rattle.std.proofs.lemmas.Bool.{cond-true}
use Rattle.dp_blend.specs.Blending.{blend}
use Rattle.dp_pixels.specs.Rectangles.{is_in}
use Rattle.dp_pixels.proofs.Rectangles.{row_in}
use Rattle.dp_pixels.proofs.fill.FillPaint.paint_row.Goals as goal

pub returns : goal.returns
returns c = λ k d within.
    let fill = c.args.self.now in
    let place = c.args._place in
    c.row_fill.ensures.places k d within
    ∙ sym (cond-true (is_in fill.area (place.x +ℤ pos k) place.y)
    (blend fill.mode fill.source (get_or c.args.row.now k d)) (get_or c.args.row.now k d)
    (row_in fill.area place (length c.args.row.now) k c.requires within))
