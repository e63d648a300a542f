-- The part of a region that a change can reach, painted row by row.
use Rattle.std.proofs.Common.{◌≡◌, ℕ, ◌+◌, ◌-◌, ◌*◌, ◌<◌, ◌≤◌, List, length, get_or, true}
use Rattle.std.proofs.Common.{false, sym, ◌∙◌, ap, arith, ◌⊎◌, inl, inr, ⊎_elim}
use Rattle.std.specs.Prelude.{ℤ, pos, ◌+ℤ◌, int_lt}
use Rattle.std.proofs.lemmas.Int.{ints, by_lt_z}
use Rattle.std.proofs.lemmas.Bool.{cond-true, cond-false, cases_lt}
use Rattle.dp_blend.specs.Color.{Channels}
use Rattle.dp_pixels.specs.declared.rect.Rect.{Rect}
use Rattle.dp_pixels.specs.declared.rect.Place.{Place}
use Rattle.dp_pixels.specs.declared.region.Region.{Region}
use Rattle.dp_pixels.specs.declared.region.Clip.{Clip}
use Rattle.dp_pixels.specs.Clips.{IsClip}
use Rattle.dp_pixels.specs.Rectangles.{is_in, clipped, canvas_rect}
use Rattle.dp_pixels.specs.Regions.{IsPainted, IsRowIn, on_canvas}
use Rattle.dp_pixels.proofs.Rectangles.{IsIn, is_in-true, is_in_by, is_in-false, in_or_out}
use Rattle.dp_pixels.proofs.Rectangles.{clipped_in, clipped_by}
use Rattle.dp_pixels.proofs.Regions.{above, painted_none, painted_same, painted_more}
use borrow.Rule.Slice.PartMut.{mid_of, put_mid}
use lib.Signed.{clash_ℤ}

-- the places of the canvas that are in a rectangle
abbrev area_of : Region → Rect → Rect
area_of region bounds = clipped bounds (canvas_rect region.canvas_width region.canvas_height)

module _ (region : Region) (bounds : Rect) (part : Clip) (is : IsClip region bounds part) where
  -- the places of the part are in the rectangle and on the canvas
  part_inside : (i j : ℕ) → i < region.width → j < region.height → part.left ≤ i → i < part.right
      → part.top ≤ j → j < part.bottom
      → IsIn (area_of region bounds) (pos (region.x + i)) (pos (region.y + j))
  part_inside i j in_x in_y from_left to_right from_top to_bottom =
      let area = area_of region bounds in
      let left_of = (is.left.below i in_x).1 in
      let under_of = (is.top.below j in_y).1 in
      record {
        x0 = by_lt_z (pos (region.x + i)) area.x0 (λ before. absurd (omega (arith, left_of before)))
            (λ from. from);
        x1 = (is.right.below i in_x).0 to_right;
        y0 = by_lt_z (pos (region.y + j)) area.y0 (λ before. absurd
            (omega (arith, under_of before))) (λ from. from);
        y1 = (is.bottom.below j in_y).0 to_bottom;
      }

  -- the other places of the region aren't
  part_outside : (i j : ℕ) → i < region.width → j < region.height
      → (i < part.left) ⊎ ((part.right ≤ i) ⊎ ((j < part.top) ⊎ (part.bottom ≤ j)))
      → ¬ (IsIn (area_of region bounds) (pos (region.x + i)) (pos (region.y + j)))
  part_outside i j in_x in_y out inside =
      let to_left = (is.left.below i in_x).0 in
      let to_right = (is.right.below i in_x).1 inside.x1 in
      let to_top = (is.top.below j in_y).0 in
      let to_bottom = (is.bottom.below j in_y).1 inside.y1 in
      ⊎_elim (λ (l : i < part.left). clash_ℤ (to_left l) inside.x0)
      (⊎_elim (λ (r : part.right ≤ i). absurd (omega arith))
      (⊎_elim (λ (t : j < part.top). clash_ℤ (to_top t) inside.y0)
      (λ (b : part.bottom ≤ j). absurd (omega arith)))) out

  -- a row of the part is in the rectangle
  pub part_row : (k : ℕ) (place : Place) (len : ℕ) → part.left < part.right → part.top ≤ k
      → k < part.bottom → len ≡ part.right - part.left
      → place.x ≡ pos (region.x + part.left) → place.y ≡ pos (region.y + k)
      → IsRowIn bounds place len
  part_row k place len some from_top to_bottom is_len at_x at_y =
      let widths = is.right.within in
      let heights = is.bottom.within in
      let first = (clipped_in bounds (canvas_rect region.canvas_width region.canvas_height)
      (pos (region.x + part.left)) (pos (region.y + k))
      (part_inside part.left k (omega arith) (omega arith) (omega arith) some from_top
      to_bottom)).0 in
      let last = (clipped_in bounds (canvas_rect region.canvas_width region.canvas_height)
      (pos (region.x + (part.right - 1))) (pos (region.y + k))
      (part_inside (part.right - 1) k (omega arith) (omega arith) (omega arith) (omega arith)
      from_top to_bottom)).0 in
      let left = first.x0 in
      let right = last.x1 in
      let top = first.y0 in
      let bottom = first.y1 in
      record {
        some = omega arith;
        left = omega (arith, ints);
        right = omega (arith, ints);
        top = omega (arith, ints);
        bottom = omega (arith, ints);
      }

module _ (region : Region) (bounds : Rect) (part : Clip) (is : IsClip region bounds part)
    (change : ℤ → ℤ → Channels → Channels) (stays : (x y : ℤ) (p : Channels)
    → is_in bounds x y ≡ false → change x y p ≡ p) where
  -- outside of the part the pixels stay
  keeps : (i j : ℕ) (p : Channels) → i < region.width → j < region.height
      → (i < part.left) ⊎ ((part.right ≤ i) ⊎ ((j < part.top) ⊎ (part.bottom ≤ j)))
      → on_canvas region change (pos (region.x + i)) (pos (region.y + j)) p ≡ p
  keeps i j p in_x in_y out =
      let canvas = canvas_rect region.canvas_width region.canvas_height in
      let x = pos (region.x + i) in
      let y = pos (region.y + j) in
      let off_area = part_outside region bounds part is i j in_x in_y out in
      ⊎_elim
      (λ (on : is_in canvas x y ≡ true).
      cond-true (is_in canvas x y) (change x y p) p on
      ∙ stays x y p (is_in-false bounds x y (λ inside. off_area
      (clipped_by bounds canvas x y inside (is_in-true canvas x y on)))))
      (λ (off : is_in canvas x y ≡ false). cond-false (is_in canvas x y) (change x y p) p off)
      (in_or_out canvas x y)

  -- in the part they change
  changes : (i j : ℕ) (p : Channels) → i < region.width → j < region.height → part.left ≤ i
      → i < part.right → part.top ≤ j → j < part.bottom
      → on_canvas region change (pos (region.x + i)) (pos (region.y + j)) p
      ≡ change (pos (region.x + i)) (pos (region.y + j)) p
  changes i j p in_x in_y from_left to_right from_top to_bottom =
      let canvas = canvas_rect region.canvas_width region.canvas_height in
      let inside = (clipped_in bounds canvas (pos (region.x + i)) (pos (region.y + j))
      (part_inside region bounds part is i j in_x in_y from_left to_right from_top to_bottom)).1
      in
      cond-true _ _ p (is_in_by canvas (pos (region.x + i)) (pos (region.y + j)) inside)

  pub part_empty : (stride : ℕ) (old : List Channels) → part.right ≤ part.left
      → IsPainted region stride (on_canvas region change) old old
  part_empty stride old none =
      painted_none region stride (on_canvas region change) old (λ i j p in_x in_y.
      keeps i j p in_x in_y (⊎_elim (λ (l : i < part.left). inl l)
      (λ (from : part.left ≤ i). inr (inl (omega arith))) (cases_lt i part.left)))

  pub part_start : (stride : ℕ) (old : List Channels) → IsPainted region stride
      (above (pos (region.y + part.top)) (on_canvas region change)) old old
  part_start stride old =
      painted_none region stride (above (pos (region.y + part.top)) (on_canvas region change)) old
      (λ i j p in_x in_y.
      ⊎_elim
      (λ (over : j < part.top).
      let test : int_lt (pos (region.y + j)) (pos (region.y + part.top))
      ≡ true = grind (arith, ints) in
      cond-true (int_lt (pos (region.y + j)) (pos (region.y + part.top))) _ p test
      ∙ keeps i j p in_x in_y (inr (inr (inl over))))
      (λ (under : part.top ≤ j).
      let test : int_lt (pos (region.y + j)) (pos (region.y + part.top))
      ≡ false = grind (arith, ints) in
      cond-false (int_lt (pos (region.y + j)) (pos (region.y + part.top))) _ p test)
      (cases_lt j part.top))

  pub part_more : (stride : ℕ) (old now row : List Channels) (k size : ℕ) → region.width ≤ stride
      → region.height * stride ≤ length old
      → part.left < part.right → part.top ≤ k → k < part.bottom → part.left + size ≡ part.right
      → IsPainted region stride (above (pos (region.y + k)) (on_canvas region change)) old now
      → length row ≡ size
      → ((n : ℕ) (d : Channels) → n < size → get_or row n d
      ≡ change (pos (region.x + part.left) +ℤ pos n) (pos (region.y + k))
      (get_or (mid_of (k * stride + part.left) size now) n d))
      → IsPainted region stride (above (pos (region.y + (k + 1))) (on_canvas region change)) old
      (put_mid (k * stride + part.left) size now row)
  part_more stride old now row k size wide long some from_top to_bottom span before len made =
      let widths = is.right.within in
      let heights = is.bottom.within in
      painted_more region stride (on_canvas region change) old now row k part.left part.right size
      wide long span widths (omega arith) before len
      (λ n d in_row.
      let at : region.x + part.left + n ≡ region.x + (part.left + n) = omega arith in
      made n d in_row
      ∙ (ap (λ (x : ℕ). change (pos x) (pos (region.y + k))
      (get_or (mid_of (k * stride + part.left) size now) n d)) at
      ∙ sym (changes (part.left + n) k _ (omega arith) (omega arith) (omega arith) (omega arith)
      from_top to_bottom)))
      (λ i p in_x out. keeps i k p in_x (omega arith) (⊎_elim (λ (l : i < part.left). inl l)
      (λ (r : part.right ≤ i). inr (inl r)) out))

  pub part_end : (stride : ℕ) (old new : List Channels) (k : ℕ) → part.bottom ≤ k
      → IsPainted region stride (above (pos (region.y + k)) (on_canvas region change)) old new
      → IsPainted region stride (on_canvas region change) old new
  part_end stride old new k all painted =
      painted_same region stride (above (pos (region.y + k)) (on_canvas region change))
      (on_canvas region change) old new (λ i j p in_x in_y.
      ⊎_elim
      (λ (over : j < k).
      let test : int_lt (pos (region.y + j)) (pos (region.y + k)) ≡ true = grind (arith, ints) in
      cond-true (int_lt (pos (region.y + j)) (pos (region.y + k))) _ p test)
      (λ (under : k ≤ j).
      let test : int_lt (pos (region.y + j)) (pos (region.y + k)) ≡ false = grind (arith, ints) in
      cond-false (int_lt (pos (region.y + j)) (pos (region.y + k))) _ p test
      ∙ sym (keeps i j p in_x in_y (inr (inr (inr (omega arith))))))
      (cases_lt j k)) painted
