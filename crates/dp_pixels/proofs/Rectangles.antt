-- Tests of places in rectangles, and the facts that they decide.
use Rattle.std.proofs.Common.{◌≡◌, ℕ, ◌<◌, true, false, arith, ◌⊎◌}
use Rattle.std.specs.Prelude.{ℤ, pos, ◌+ℤ◌, ◌≤ℤ◌, ◌<ℤ◌}
use Rattle.std.proofs.lemmas.Int.{ints, int_max_is, int_min_is}
use Rattle.std.proofs.lemmas.Bool.{cases_Bool, false_from_ne_true}
use Rattle.dp_pixels.specs.declared.rect.Rect.{Rect}
use Rattle.dp_pixels.specs.declared.rect.Place.{Place}
use Rattle.dp_pixels.specs.Rectangles.{is_in, clipped, canvas_rect}
use Rattle.dp_pixels.specs.Regions.{IsRowIn}

-- a place is in a rectangle
pub record IsIn (r : Rect) (x y : ℤ) : Type 0 where
  pub x0 : r.x0 ≤ℤ x
  pub x1 : x <ℤ r.x1
  pub y0 : r.y0 ≤ℤ y
  pub y1 : y <ℤ r.y1

pub is_in-true : (r : Rect) (x y : ℤ) → is_in r x y ≡ true → IsIn r x y
is_in-true r x y h = record {
  x0 = grind (arith, ints);
  x1 = grind (arith, ints);
  y0 = grind (arith, ints);
  y1 = grind (arith, ints);
}

pub is_in_by : (r : Rect) (x y : ℤ) → IsIn r x y → is_in r x y ≡ true
is_in_by r x y h =
    let x0 = h.x0 in
    let x1 = h.x1 in
    let y0 = h.y0 in
    let y1 = h.y1 in
    grind (arith, ints)

-- a place is in a rectangle or not
pub in_or_out : (r : Rect) (x y : ℤ) → (is_in r x y ≡ true) ⊎ (is_in r x y ≡ false)
in_or_out r x y = cases_Bool (is_in r x y)

-- a place for which the facts can't hold is out
pub is_in-false : (r : Rect) (x y : ℤ) → ¬ (IsIn r x y) → is_in r x y ≡ false
is_in-false r x y out = false_from_ne_true (is_in r x y) (λ test. out (is_in-true r x y test))

-- the places of a part of two rectangles are in both
pub clipped_in : (a b : Rect) (x y : ℤ) → IsIn (clipped a b) x y → IsIn a x y × IsIn b x y
clipped_in a b x y h =
    let x0 = h.x0 in
    let x1 = h.x1 in
    let y0 = h.y0 in
    let y1 = h.y1 in (
      record {
        x0 = omega (arith, ints, int_max_is a.x0 b.x0);
        x1 = omega (arith, ints, int_min_is a.x1 b.x1);
        y0 = omega (arith, ints, int_max_is a.y0 b.y0);
        y1 = omega (arith, ints, int_min_is a.y1 b.y1);
      },
      record {
        x0 = omega (arith, ints, int_max_is a.x0 b.x0);
        x1 = omega (arith, ints, int_min_is a.x1 b.x1);
        y0 = omega (arith, ints, int_max_is a.y0 b.y0);
        y1 = omega (arith, ints, int_min_is a.y1 b.y1);
      },
    )

pub clipped_by : (a b : Rect) (x y : ℤ) → IsIn a x y → IsIn b x y → IsIn (clipped a b) x y
clipped_by a b x y h k =
    let hx0 = h.x0 in
    let hx1 = h.x1 in
    let hy0 = h.y0 in
    let hy1 = h.y1 in
    let kx0 = k.x0 in
    let kx1 = k.x1 in
    let ky0 = k.y0 in
    let ky1 = k.y1 in
    record {
      x0 = omega (arith, ints, int_max_is a.x0 b.x0);
      x1 = omega (arith, ints, int_min_is a.x1 b.x1);
      y0 = omega (arith, ints, int_max_is a.y0 b.y0);
      y1 = omega (arith, ints, int_min_is a.y1 b.y1);
    }

-- the places of a row in a rectangle are in it
pub row_in : (bounds : Rect) (place : Place) (len k : ℕ) → IsRowIn bounds place len → k < len
    → is_in bounds (place.x +ℤ pos k) place.y ≡ true
row_in bounds place len k row within =
    let left = row.left in
    let right = row.right in
    is_in_by bounds (place.x +ℤ pos k) place.y (record {
      x0 = omega (arith, ints);
      x1 = omega (arith, ints);
      y0 = row.top;
      y1 = row.bottom;
    })

-- so is the place where it begins
pub row_start : (bounds : Rect) (place : Place) (len : ℕ) → IsRowIn bounds place len
    → IsIn bounds place.x place.y
row_start bounds place len row =
    let some = row.some in
    let right = row.right in
    record { x0 = row.left; x1 = omega (arith, ints); y0 = row.top; y1 = row.bottom }

-- a place of the canvas
pub on_canvas : (width height x y : ℕ) → x < width → y < height
    → is_in (canvas_rect width height) (pos x) (pos y) ≡ true
on_canvas width height x y in_x in_y =
    is_in_by (canvas_rect width height) (pos x) (pos y) (record {
      x0 = omega (arith, ints);
      x1 = omega (arith, ints, in_x);
      y0 = omega (arith, ints);
      y1 = omega (arith, ints, in_y);
    })
