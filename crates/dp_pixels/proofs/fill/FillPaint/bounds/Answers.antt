use Rattle.std.proofs.lemmas.Bool.{cond-false}
use Rattle.dp_blend.specs.Blending.{blend}
use Rattle.dp_pixels.specs.Rectangles.{is_in}
use Rattle.dp_pixels.proofs.fill.FillPaint.bounds.Goals as goal

pub returns-clause-stays : goal.returns-clause-stays
returns-clause-stays c = λ x y old out.
    let fill = c.args.self.now in
    cond-false (is_in fill.area x y) (blend fill.mode fill.source old) old out
