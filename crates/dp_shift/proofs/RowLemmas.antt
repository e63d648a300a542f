-- Rows of which a part was put anew.
use Rattle.std.proofs.Common.{◌≡◌, ℕ, ◌+◌, ◌-◌, ◌<◌, ◌≤◌, List, length, get_or, map, ap}
use Rattle.std.proofs.Common.{◌∙◌, arith}
use Rattle.std.proofs.Common.{⊎_elim}
use Rattle.std.proofs.Common.{cond, false, sym}
use Rattle.std.specs.Prelude.{ℤ, pos, ◌+ℤ◌, ◌-ℤ◌, ◌<ℤ◌, ◌≤ℤ◌}
use Rattle.std.proofs.lemmas.Bool.{cases_lt, cond-false, cond-true}
use Rattle.std.proofs.lemmas.List.{length-map}
use Rattle.std.proofs.lemmas.Int.{ints}
use Rattle.dp_blend.specs.Blending.{blend}
use Rattle.dp_blend.specs.declared.modes.Mode.TheVariants.{Normal}
use Rattle.dp_shift.specs.Reading.{laid, lifted, row_from}
use Rattle.std.proofs.lemmas.List.FromFn.{length-range_with_len}
use lib.Signed.{clash_ℤ}
use Rattle.dp_pixels.specs.declared.rect.Rect.{Rect}
use Rattle.dp_pixels.specs.Rectangles.{is_in}
use Rattle.dp_pixels.proofs.Rectangles.{is_in_by, is_in-false}
use Rattle.dp_blend.specs.Color.{Channels, clear}
use Rattle.dp_blend.specs.Canvas.{below}
use Rattle.dp_tile.specs.Areas.{with_part}
use Rattle.dp_tile.proofs.Areas.{length-with_part, get_or-before, get_or-inside, get_or-after}
use Rattle.dp_blend.proofs.Parts.{is_part, parts_same, pixel_of_part}

-- a row of which a part was put anew
pub is_row_with_part : (f g h : ℕ → Channels) (from to n : ℕ) (xs ys : List Channels)
    → from ≤ to → to ≤ n → length xs ≡ n → length ys ≡ to - from
    → ((i : ℕ) → i < n → get_or xs i clear ≡ f i)
    → ((i : ℕ) → i < to - from → get_or ys i clear ≡ g (from + i))
    → ((i : ℕ) → i < n → i < from → f i ≡ h i) → ((i : ℕ) → from ≤ i → i < to → g i ≡ h i)
    → ((i : ℕ) → i < n → to ≤ i → f i ≡ h i)
    → with_part from to xs ys ≡ map h (below n)
is_row_with_part f g h from to n xs ys order within count long old put before inside after =
    let fits : to ≤ length xs = omega (arith, within, count) in
    is_part h n (with_part from to xs ys) (length-with_part from to xs order fits ys long ∙ count)
    (λ i few.
    ⊎_elim (λ less. get_or-before from to xs order fits ys long i clear less ∙ old i few
    ∙ before i few less)
    (λ at_least.
    ⊎_elim (λ below_to. get_or-inside from to xs order fits ys long i clear at_least below_to
    ∙ put (i - from) (omega (arith, at_least, below_to)) ∙ ap g (back i at_least)
    ∙ inside i at_least below_to)
    (λ past. get_or-after from to xs order fits ys long i clear past ∙ old i few
    ∙ after i few past)
    (cases_lt i to))
    (cases_lt i from)) where
      back : (k : ℕ) → from ≤ k → from + (k - from) ≡ k
      back k after = omega (arith, after)

-- ---- rows of which the places in a rectangle change

module _ (source : Rect) (x y : ℤ) (len start end : ℕ) (f g : ℕ → Channels) (xs : List Channels)
    (are : xs ≡ map f (below len))
    (left : (i : ℕ) → i < len → i < start → (x +ℤ pos i) <ℤ source.x0)
    (right : (i : ℕ) → i < len → end ≤ i → source.x1 ≤ℤ (x +ℤ pos i)) where
  -- the row after it
  abbrev pub changed_row : List Channels
  changed_row = map (λ i. cond (is_in source (x +ℤ pos i) y) (g i) (f i)) (below len)

  off_left : (i : ℕ) → (x +ℤ pos i) <ℤ source.x0 → is_in source (x +ℤ pos i) y ≡ false
  off_left i out = is_in-false source (x +ℤ pos i) y (λ at. clash_ℤ out at.x0)

  off_right : (i : ℕ) → source.x1 ≤ℤ (x +ℤ pos i) → is_in source (x +ℤ pos i) y ≡ false
  off_right i out = is_in-false source (x +ℤ pos i) y (λ at. clash_ℤ at.x1 out)

  stays : (i : ℕ) → is_in source (x +ℤ pos i) y ≡ false
      → f i ≡ cond (is_in source (x +ℤ pos i) y) (g i) (f i)
  stays i out = sym (cond-false (is_in source (x +ℤ pos i) y) (g i) (f i) out)

  -- none of its places is in the rectangle
  pub row_stays : (source.y0 ≤ℤ y → y <ℤ source.y1 → start < end → ⊥) → xs ≡ changed_row
  row_stays none =
      are ∙ parts_same f (λ i. cond (is_in source (x +ℤ pos i) y) (g i) (f i)) len
      (λ i few. stays i (is_in-false source (x +ℤ pos i) y
      (λ at. none at.y0 at.y1
      (⊎_elim (λ less. absurd (clash_ℤ (left i few less) at.x0))
      (λ from. ⊎_elim (λ to. omega (arith, from, to))
      (λ past. absurd (clash_ℤ at.x1 (right i few past))) (cases_lt i end)) (cases_lt i start)))))

  -- a part of it is in the rectangle
  pub row_changes : (ys : List Channels) → start < end → end ≤ len → source.y0 ≤ℤ y
      → y <ℤ source.y1
      → ((i : ℕ) → i < len → start ≤ i → source.x0 ≤ℤ (x +ℤ pos i))
      → ((i : ℕ) → i < len → i < end → (x +ℤ pos i) <ℤ source.x1)
      → length ys ≡ end - start
      → ((i : ℕ) → i < end - start → get_or ys i clear ≡ g (start + i))
      → with_part start end xs ys ≡ changed_row
  row_changes ys some within from_y to_y from_x to_x count put =
      is_row_with_part f g (λ i. cond (is_in source (x +ℤ pos i) y) (g i) (f i)) start end len xs ys
      (omega (arith, some)) within (ap length are ∙ length-map (below len) f
      ∙ length-range_with_len 0 len) count
      (λ i few. ap (λ all. get_or all i clear) are ∙ pixel_of_part f len i few)
      put
      (λ i few less. stays i (off_left i (left i few less)))
      (λ i from to. sym (cond-true (is_in source (x +ℤ pos i) y) (g i) (f i)
      (is_in_by source (x +ℤ pos i) y (record {
        x0 = from_x i (omega (arith, to, within)) from;
        x1 = to_x i (omega (arith, to, within)) to;
        y0 = from_y;
        y1 = to_y;
      }))))
      (λ i few past. stays i (off_right i (right i few past)))

-- what was lifted is laid where it moves to
pub lifted_is_laid : (source : Rect) (right down : ℤ) (old pixel : ℤ → ℤ → Channels) (x y : ℤ)
    (len : ℕ)
    → map (lifted source (x -ℤ right) (y -ℤ down) old (λ i. pixel (x +ℤ pos i) y)) (below len)
    ≡ row_from (laid source right down old pixel) x y len
lifted_is_laid source right down old pixel x y len =
    parts_same (lifted source (x -ℤ right) (y -ℤ down) old (λ i. pixel (x +ℤ pos i) y))
    (λ i. laid source right down old pixel (x +ℤ pos i) y) len
    (λ i few. ap (λ z. cond (is_in source z (y -ℤ down))
    (blend Normal (old z (y -ℤ down)) (pixel (x +ℤ pos i) y)) (pixel (x +ℤ pos i) y))
    (order i)) where
      order : (i : ℕ) → x -ℤ right +ℤ pos i ≡ x +ℤ pos i -ℤ right
      order i = omega (arith, ints)

-- a row has as many pixels as it is asked for
pub length-row_from : (pixel : ℤ → ℤ → Channels) (x y : ℤ) (len : ℕ)
    → length (row_from pixel x y len) ≡ len
length-row_from pixel x y len =
    length-map (below len) (λ i. pixel (x +ℤ pos i) y) ∙ length-range_with_len 0 len

-- a row, by its own length
pub as_long : (pixel : ℤ → ℤ → Channels) (x y : ℤ) (len : ℕ) (xs : List Channels)
    → xs ≡ row_from pixel x y len → xs ≡ row_from pixel x y (length xs)
as_long pixel x y len xs are =
    are ∙ ap (row_from pixel x y) (sym (ap length are ∙ length-row_from pixel x y len))

-- a row of pixels that were shifted
pub row_shifted : (pixel : ℤ → ℤ → Channels) (left top x y : ℤ) (len : ℕ)
    → row_from pixel (x -ℤ left) (y -ℤ top) len
    ≡ row_from (λ x y. pixel (x -ℤ left) (y -ℤ top)) x y len
row_shifted pixel left top x y len =
    parts_same (λ i. pixel (x -ℤ left +ℤ pos i) (y -ℤ top))
    (λ i. pixel (x +ℤ pos i -ℤ left) (y -ℤ top)) len
    (λ i few. ap (λ z. pixel z (y -ℤ top)) (order i)) where
      order : (i : ℕ) → x -ℤ left +ℤ pos i ≡ x +ℤ pos i -ℤ left
      order i = omega (arith, ints)
