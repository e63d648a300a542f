-- Rectangles on the greatest canvas, and the feet of MoveRect.
use Rattle.std.proofs.Common.{◌≡◌, ℕ, ◌<◌, ap, subst, sym, arith}
use Rattle.std.specs.Prelude.{ℤ, pos, ◌≤ℤ◌, ◌^◌, unsigned_abs}
use Rattle.std.specs.Int.{int_min}
use Rattle.std.proofs.lemmas.Int.{ints, int_max_is, int_min_is}
use Rattle.dp_msg_draw.specs.declared.draw.Draw.{Draw}
use Rattle.dp_msg_draw.specs.declared.draw.Draw.TheVariants as op
use Rattle.dp_pixels.specs.declared.rect.Rect.{Rect}
use Rattle.dp_pixels.specs.declared.feet.Footprint.{Footprint}
use Rattle.dp_pixels.specs.declared.feet.Footprint.TheVariants.{Two}
use Rattle.dp_pixels.specs.Feet.{foot, on_greatest, on_side}
use Rattle.dp_pixels.specs.Rectangles.{rect_at}
use Rattle.dp_shift.specs.Grids.{IsNear, IsOnGreatest}
use Rattle.dp_shift.specs.Reading.{IsMove}

-- ---- where it is

-- a number that was moved onto a side
record IsOnSide (z : ℤ) : Type 0 where
  low : pos 0 ≤ℤ z
  high : z ≤ℤ pos 4096

side_within : (z : ℤ) → IsOnSide (on_side z)
side_within z = record {
  low = omega (arith, ints, int_max_is (pos 0) (int_min z (pos 4096)));
  high = omega (
    arith,
    ints,
    int_max_is (pos 0) (int_min z (pos 4096)),
    int_min_is z (pos 4096),
  );
}

pub greatest_within : (r : Rect) → IsOnGreatest (on_greatest r)
greatest_within r = record {
  left = (side_within r.x0).low;
  top = (side_within r.y0).low;
  right = (side_within r.x1).high;
  bottom = (side_within r.y1).high;
}

-- ---- feet of MoveRect

abbrev from_of : Footprint → Rect → Rect
from_of (Two layer from to) other = from
from_of _ other = other

abbrev to_of : Footprint → Rect → Rect
to_of (Two layer from to) other = to
to_of _ other = other

module _ (layer sx sy w h : ℕ) (tx ty : ℤ) (other : ℕ) (from to : Rect)
    (is : foot (op.MoveRect layer sx sy w h tx ty) ≡ Two other from to) where
  pub rects_from : from ≡ on_greatest (rect_at (pos sx) (pos sy) w h)
  rects_from = sym (ap (λ f. from_of f from) is)

  pub rects_to : to ≡ on_greatest (rect_at tx ty w h)
  rects_to = sym (ap (λ f. to_of f to) is)

near_side : (z : ℤ) → unsigned_abs (on_side z) < 2 ^ 38
near_side z = omega (arith, ints, (side_within z).low, (side_within z).high)

pub greatest_near : (r : Rect) → IsNear (on_greatest r)
greatest_near r = record {
  left = near_side r.x0;
  top = near_side r.y0;
  right = near_side r.x1;
  bottom = near_side r.y1;
}

-- its rectangles are on the greatest canvas
pub record AreRects (first second : Rect) : Type 0 where
  pub from : IsOnGreatest first
  pub to : IsOnGreatest second
  pub near : IsNear first

pub move_within : (d : Draw) → IsMove d → (layer : ℕ) (from to : Rect)
    → foot d ≡ Two layer from to → AreRects from to
move_within (op.MoveRect own sx sy w h tx ty) move layer from to is =
    let source = rect_at (pos sx) (pos sy) w h in
    let target = rect_at tx ty w h in
    let first = sym (rects_from own sx sy w h tx ty layer from to is) in
    record {
      from = subst IsOnGreatest first (greatest_within source);
      to = subst IsOnGreatest (sym (rects_to own sx sy w h tx ty layer from to is))
          (greatest_within target);
      near = subst IsNear first (greatest_near source);
    }
move_within _ move layer from to is = absurd move
