-- Feet that are one rectangle.
use Rattle.std.proofs.Common.{◌≡◌, ℕ, ◌==◌, ◌*◌, true, Some, ap, subst, sym, ◌∙◌, arith, ◌≤◌}
use Rattle.std.specs.Prelude.{ℤ, pos}
use Rattle.std.proofs.lemmas.Bool.{cond_both}
use Rattle.std.proofs.lemmas.Option.{none-some, same_Some}
use Rattle.dp_msg_draw.specs.declared.draw.Draw.{Draw}
use Rattle.dp_msg_draw.specs.declared.draw.Draw.TheVariants as op
use Rattle.dp_pixels.specs.declared.rect.Rect.{Rect}
use Rattle.dp_pixels.specs.declared.feet.Footprint.{Footprint}
use Rattle.dp_pixels.specs.declared.feet.Footprint.TheVariants.{Area, Two, All}
use Rattle.dp_pixels.specs.Feet.{around, foot, greatest_canvas, is_in_foot, on_greatest}
use Rattle.dp_pixels.specs.Feet.{squares_of, squares_of_foot}
use Rattle.dp_pixels.specs.Dabs.{placed_dabs}
use Rattle.dp_pixels.specs.Rectangles.{is_in, rect_at}
use Rattle.dp_shift.specs.Grids.{IsOnGreatest}
use Rattle.dp_shift.proofs.FootLemmas.{greatest_within}
use Rattle.dp_paint.specs.Painting.{foot_area}
use Rattle.dp_tile.specs.declared.area.CellArea.{CellArea}
use Rattle.dp_tile.specs.Areas.{is_in_cells}
use Rattle.dp_ops.proofs.Waits.{inside_by, inside_facts}

-- its squares are those of the foot
pub area_squares : (r : Rect) (f : Footprint) → foot_area f ≡ Some r
    → squares_of r ≡ squares_of_foot f
area_squares r (Area layer rect) is = ap squares_of (sym (same_Some rect r is))
area_squares r (Two layer from to) is = absurd (none-some r is)
area_squares r All is = absurd (none-some r is)

-- a place in the foot is in the rectangle
pub in_area : (r : Rect) (f : Footprint) (x y : ℤ) → foot_area f ≡ Some r
    → is_in_foot f x y ≡ true → is_in r x y ≡ true
in_area r (Area layer rect) x y is inside =
    ap (λ (area : Rect). is_in area x y) (sym (same_Some rect r is)) ∙ inside
in_area r (Two layer from to) x y is inside = absurd (none-some r is)
in_area r All x y is inside = absurd (none-some r is)

-- the rectangle of a foot that is one is on the greatest canvas
pub area_within : (d : Draw) (r : Rect) → foot_area (foot d) ≡ Some r → IsOnGreatest r
area_within (op.FillRect layer mode x y w h color) r is =
    subst IsOnGreatest (same_Some _ r is) (greatest_within (rect_at (pos x) (pos y) w h))
area_within (op.PutImage layer mode x y w h colors) r is =
    subst IsOnGreatest (same_Some _ r is) (greatest_within (rect_at (pos x) (pos y) w h))
area_within (op.DabsRound layer x y red g b mode dabs) r is =
    subst IsOnGreatest (same_Some _ r is) (greatest_within (around (placed_dabs x y dabs)))
area_within (op.DabsSquare layer x y red g b mode dabs) r is =
    subst IsOnGreatest (same_Some _ r is) (greatest_within (around (placed_dabs x y dabs)))
area_within (op.PutTile layer col row repeat content) r is =
    subst IsOnGreatest (same_Some _ r is)
    (cond_both (repeat == 0)
    (on_greatest (rect_at (pos (col * 64)) (pos (row * 64)) 64 64)) greatest_canvas IsOnGreatest
    (λ _. greatest_within (rect_at (pos (col * 64)) (pos (row * 64)) 64 64))
    (λ _. greatest_within greatest_canvas))
area_within _ r is = absurd (none-some r is)

-- a cell of an area is in one that has it
pub in_joined : (a j : CellArea) (col row : ℕ) → j.left ≤ a.left → a.right ≤ j.right
    → j.top ≤ a.top → a.bottom ≤ j.bottom → is_in_cells a col row ≡ true
    → is_in_cells j col row ≡ true
in_joined a j col row left right top bottom t =
    let is = inside_facts a col row t in
    inside_by j col row (record {
      left = omega (arith, left, is.left);
      right = omega (arith, right, is.right);
      top = omega (arith, top, is.top);
      bottom = omega (arith, bottom, is.bottom);
    })
