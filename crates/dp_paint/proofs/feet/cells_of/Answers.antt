use Rattle.std.proofs.Common.{arith}
use Rattle.std.specs.Prelude.{pos}
use Rattle.dp_pixels.specs.Feet.{foot}
use Rattle.dp_paint.proofs.FootLemmas.{area_squares, in_area}
use Rattle.dp_paint.proofs.feet.cells_of.Goals as goal

pub returns-clause-few : goal.returns-clause-few
returns-clause-few c =
    omega (
      arith,
      c.cells_in.ensures.few,
      area_squares c.foot_rect.result (foot c.args.command.now) c.foot_rect.ensures.foot,
    )

pub returns-clause-all : goal.returns-clause-all
returns-clause-all c = λ x y in_x in_y is.
    c.cells_in.ensures.all x y in_x in_y
    (in_area c.foot_rect.result (foot c.args.command.now) (pos x) (pos y) c.foot_rect.ensures.foot
    is)
