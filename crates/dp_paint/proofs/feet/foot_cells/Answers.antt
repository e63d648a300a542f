use Rattle.std.proofs.Common.{◌≡◌, ◌/◌, ⊎_elim, subst, true}
use Rattle.std.specs.Prelude.{pos}
use Rattle.std.proofs.lemmas.Bool.{cases_Bool}
use Rattle.dp_pixels.specs.declared.feet.Footprint.{Footprint}
use Rattle.dp_pixels.specs.Feet.{is_in_foot}
use Rattle.dp_pixels.specs.Rectangles.{is_in}
use Rattle.dp_paint.proofs.FootLemmas.{in_joined}
use Rattle.dp_paint.proofs.feet.foot_cells.Goals as goal

pub returns-in-MoveRect-clause-all : goal.returns-in-MoveRect-clause-all
returns-in-MoveRect-clause-all c = λ x y in_x in_y is.
    let from = c.move_rects.result.0 in
    let two = c.move_rects.ensures.foot in
    let j = c.joined.ensures in
    let either = subst (λ (f : Footprint). is_in_foot f (pos x) (pos y) ≡ true) two.1 is in
    ⊎_elim
    (λ t. in_joined c.cells_in.result c.joined.result (x / 64) (y / 64) j.left.0 j.right.0 j.top.0
    j.bottom.0 (c.cells_in.ensures.all x y in_x in_y t))
    (λ f. in_joined c.cells_in-in-MoveRect.result c.joined.result (x / 64) (y / 64) j.left.1
    j.right.1 j.top.1 j.bottom.1 (c.cells_in-in-MoveRect.ensures.all x y in_x in_y
    (rw f at either)))
    (cases_Bool (is_in from (pos x) (pos y)))
