-- Windows that are painted row by row.
use Rattle.std.proofs.Common.{◌≡◌, ◌≢◌, ℕ, ◌+◌, ◌-◌, ◌*◌, ◌<◌, ◌≤◌, List, length, get_or}
use Rattle.std.proofs.Common.{drop, cond, Bool, true, false, ◌&&◌, leb, ltb, refl, sym, ◌∙◌}
use Rattle.std.proofs.Common.{ap, subst, arith, ◌⊎◌, inl, inr, ⊎_elim}
use Rattle.std.specs.Prelude.{ℤ, pos, int_lt}
use Rattle.std.proofs.lemmas.Bool.{cases_lt, cases_order, cond-true, cond-false}
use Rattle.std.proofs.lemmas.Bool.Decides.{nat_tests}
use Rattle.std.proofs.lemmas.Int.{ints}
use Rattle.std.proofs.lemmas.List.{get_or-take, get_or-drop, length-take, length-drop}
use Rattle.std.proofs.Math.Nat.{mul-le-mul_right}
use Rattle.dp_blend.specs.Color.{Channels}
use Rattle.dp_blend.proofs.Written.{part_above, part_below, part_within}
use Rattle.dp_pixels.specs.declared.region.Region.{Region}
use Rattle.dp_pixels.specs.Regions.{IsPainted}
use borrow.Rule.Slice.PartMut.{mid_of, put_mid, same_len_mid}

-- ---- a part of a list that is written

-- the element at an index of the part before it is written
part_old : {X : Type 0} (a k i j : ℕ) (xs : List X) (d : X) → i ≡ a + j → j < k
    → get_or (mid_of a k xs) j d ≡ get_or xs i d
part_old a k i j xs d place within =
    let index : a + j ≡ i = omega arith in
    get_or-take k (drop a xs) j d within ∙ (get_or-drop a xs j d ∙ ap (λ n. get_or xs n d) index)

-- ---- regions

-- a change of all places of a region that keeps each pixel
pub painted_none : (region : Region) (stride : ℕ) (change : ℤ → ℤ → Channels → Channels)
    (old : List Channels)
    → ((i j : ℕ) (p : Channels) → i < region.width → j < region.height
    → change (pos (region.x + i)) (pos (region.y + j)) p ≡ p)
    → IsPainted region stride change old old
painted_none region stride change old keeps = record {
  len = refl;
  inside = λ i j d in_x in_y. sym (keeps i j _ in_x in_y);
  outside = λ k d apart. refl;
}

-- changes that are equal at each place of the region
pub painted_same : (region : Region) (stride : ℕ) (f g : ℤ → ℤ → Channels → Channels)
    (old new : List Channels)
    → ((i j : ℕ) (p : Channels) → i < region.width → j < region.height
    → f (pos (region.x + i)) (pos (region.y + j)) p ≡ g (pos (region.x + i))
    (pos (region.y + j)) p)
    → IsPainted region stride f old new → IsPainted region stride g old new
painted_same region stride f g old new same painted = record {
  len = painted.len;
  inside = λ i j d in_x in_y. painted.inside i j d in_x in_y ∙ same i j _ in_x in_y;
  outside = painted.outside;
}

-- one change after the other
pub painted_then : (region : Region) (stride : ℕ) (f g : ℤ → ℤ → Channels → Channels)
    (old now new : List Channels)
    → IsPainted region stride f old now → IsPainted region stride g now new
    → IsPainted region stride (λ x y p. g x y (f x y p)) old new
painted_then region stride f g old now new first next = record {
  len = next.len ∙ first.len;
  inside = λ i j d in_x in_y.
      next.inside i j d in_x in_y ∙ ap (g (pos (region.x + i)) (pos (region.y + j)))
      (first.inside i j d in_x in_y);
  outside = λ k d apart. next.outside k d apart ∙ first.outside k d apart;
}

-- ---- row by row

-- a change of the rows above a limit
abbrev pub above : ℤ → (ℤ → ℤ → Channels → Channels) → ℤ → ℤ → Channels → Channels
above limit change x y p = cond (int_lt y limit) (change x y p) p

-- the places of two rows of a list whose rows are stride long are apart
row_order : (i j k stride : ℕ) → i < stride → j < k → j * stride + i < k * stride
row_order i j k stride within order = let rows : (j + 1) * stride
    ≤ k * stride = mul-le-mul_right stride (omega arith) in omega arith

-- a part of row k is painted, after the rows above it; outside of the part nothing changes
module _ (region : Region) (stride : ℕ) (change : ℤ → ℤ → Channels → Channels)
    (old now part : List Channels) (k left right size : ℕ) (wide : region.width ≤ stride)
    (long : region.height * stride ≤ length old) (span : left + size ≡ right)
    (in_width : right ≤ region.width) (in_height : k < region.height)
    (before : IsPainted region stride (above (pos (region.y + k)) change) old now)
    (part_len : length part ≡ size) (made : (n : ℕ) (d : Channels) → n < size
    → get_or part n d ≡ change (pos (region.x + (left + n))) (pos (region.y + k))
    (get_or (mid_of (k * stride + left) size now) n d)) (stays : (i : ℕ) (p : Channels)
    → i < region.width → (i < left) ⊎ (right ≤ i) → change (pos (region.x + i)) (pos (region.y + k))
    p ≡ p) where
  -- the row is in the list
  row_fits : k * stride + right ≤ length now
  row_fits =
      let rows : (k + 1) * stride ≤ region.height * stride = mul-le-mul_right stride (omega arith)
      in
      omega (arith, before.len)

  -- the pixel at a place of row k
  row_inside : (i : ℕ) (d : Channels) → i < region.width
      → get_or (put_mid (k * stride + left) size now part) (k * stride + i) d
      ≡ change (pos (region.x + i)) (pos (region.y + k)) (get_or old (k * stride + i) d)
  row_inside i d in_x =
      let fits = row_fits in
      let not_yet : int_lt (pos (region.y + k)) (pos (region.y + k))
      ≡ false = grind (arith, ints) in
      let old_there : get_or now (k * stride + i) d ≡ get_or old (k * stride + i) d =
      before.inside i k d in_x in_height ∙ ap (λ (t : Bool). cond t
      (change (pos (region.x + i)) (pos (region.y + k)) (get_or old (k * stride + i) d))
      (get_or old (k * stride + i) d)) not_yet in
      ⊎_elim
      (λ (is_left : i < left).
      part_below (k * stride + left) size (k * stride + i) now part d (omega arith) (omega arith)
      ∙ (old_there ∙ sym (stays i _ in_x (inl is_left))))
      (λ (not_left : left ≤ i).
      ⊎_elim
      (λ (within : i < right).
      let at : left + (i - left) ≡ i = omega arith in
      part_within (k * stride + left) size (k * stride + i) (i - left) now part d (omega arith)
      (omega arith) (omega arith)
      ∙ (made (i - left) d (omega arith)
      ∙ (ap (λ (n : ℕ). change (pos (region.x + n)) (pos (region.y + k))
      (get_or (mid_of (k * stride + left) size now) (i - left) d)) at
      ∙ ap (change (pos (region.x + i)) (pos (region.y + k)))
      (part_old (k * stride + left) size (k * stride + i) (i - left) now d (omega arith)
      (omega arith) ∙ old_there))))
      (λ (is_right : right ≤ i).
      part_above (k * stride + left) size (k * stride + i) now part d (omega arith) part_len
      (omega arith)
      ∙ (old_there ∙ sym (stays i _ in_x (inr is_right))))
      (cases_lt i right))
      (cases_lt i left)

  -- the pixel at a place of the region
  more_inside : (i j : ℕ) (d : Channels) → i < region.width → j < region.height
      → get_or (put_mid (k * stride + left) size now part) (j * stride + i) d
      ≡ above (pos (region.y + (k + 1))) change (pos (region.x + i)) (pos (region.y + j))
      (get_or old (j * stride + i) d)
  more_inside i j d in_x in_y =
      let fits = row_fits in
      let row = λ (m : ℕ) (t : Bool). cond t (change (pos (region.x + i)) (pos (region.y + m))
      (get_or old (m * stride + i) d)) (get_or old (m * stride + i) d) in
      ⊎_elim
      (λ (same : j ≡ k).
      let P : ℕ → Type 0 = λ m. get_or (put_mid (k * stride + left) size now part) (m * stride + i)
      d ≡ row m (int_lt (pos (region.y + m)) (pos (region.y + (k + 1)))) in
      let now_so : int_lt (pos (region.y + k)) (pos (region.y + (k + 1)))
      ≡ true = grind (arith, ints) in
      subst P (sym same) (row_inside i d in_x ∙ sym (ap (row k) now_so)))
      (⊎_elim
      (λ (over : j < k).
      let order = row_order i j k stride (omega arith) over in
      let was : int_lt (pos (region.y + j)) (pos (region.y + k)) ≡ true = grind (arith, ints) in
      let is : int_lt (pos (region.y + j)) (pos (region.y + (k + 1)))
      ≡ true = grind (arith, ints) in
      part_below (k * stride + left) size (j * stride + i) now part d (omega arith) (omega arith)
      ∙ (before.inside i j d in_x in_y ∙ ap (row j) (was ∙ sym is)))
      (λ (under : k < j).
      let below : (k + 1) * stride ≤ j * stride = mul-le-mul_right stride (omega arith) in
      let was : int_lt (pos (region.y + j)) (pos (region.y + k)) ≡ false = grind (arith, ints) in
      let is : int_lt (pos (region.y + j)) (pos (region.y + (k + 1)))
      ≡ false = grind (arith, ints) in
      part_above (k * stride + left) size (j * stride + i) now part d (omega arith) part_len
      (omega arith)
      ∙ (before.inside i j d in_x in_y ∙ ap (row j) (was ∙ sym is))))
      (cases_order j k)

  -- the pixel at another index
  more_outside : (n : ℕ) (d : Channels) → ((i j : ℕ) → i < region.width → j < region.height
      → n ≢ j * stride + i)
      → get_or (put_mid (k * stride + left) size now part) n d ≡ get_or old n d
  more_outside n d apart =
      let fits = row_fits in
      ⊎_elim
      (λ (below : n < k * stride + left). part_below (k * stride + left) size n now part d below
      (omega arith) ∙ before.outside n d apart)
      (λ (from : k * stride + left ≤ n).
      ⊎_elim
      (λ (within : n < k * stride + right). absurd (apart (n - k * stride) k (omega arith) in_height
      (omega arith)))
      (λ (over : k * stride + right ≤ n). part_above (k * stride + left) size n now part d
      (omega arith) part_len (omega arith) ∙ before.outside n d apart)
      (cases_lt n (k * stride + right)))
      (cases_lt n (k * stride + left))

  pub painted_more : IsPainted region stride (above (pos (region.y + (k + 1))) change) old
      (put_mid (k * stride + left) size now part)
  painted_more = record {
    len = same_len_mid (k * stride + left) size now part (part_len ∙ sym (mid_length row_fits))
        ∙ before.len;
    inside = more_inside;
    outside = more_outside;
  }
    where
      mid_length : k * stride + right ≤ length now → length (mid_of (k * stride + left) size now)
          ≡ size
      mid_length fits = omega (
        arith,
        length-take size (drop (k * stride + left) now),
        length-drop
            (k * stride + left) now,
      )

-- the length of a part of row k, as the code cuts it out
pub length-row : (pixels : List Channels) (width height stride k left right : ℕ) → width ≤ stride
    → height * stride ≤ length pixels → left ≤ right → right ≤ width → k < height
    → length (mid_of (k * stride + left) (k * stride + right - (k * stride + left)) pixels)
    ≡ right - left
length-row pixels width height stride k left right wide long order in_width in_height =
    let rows : (k + 1) * stride ≤ height * stride = mul-le-mul_right stride (omega arith) in
    let size = k * stride + right - (k * stride + left) in
    omega (
      arith,
      length-take size (drop (k * stride + left) pixels),
      length-drop
          (k * stride + left) pixels,
    )

-- the element at an index of a row of which a part is written
pub part_written : {X : Type 0} (f : ℕ → X → X) (row part : List X) (left right k : ℕ) (d : X)
    → left ≤ right → right ≤ length row → k < length row
    → length part ≡ right - left → ((n : ℕ) → n < right - left
    → get_or part n d ≡ f (left + n) (get_or (mid_of left (right - left) row) n d))
    → get_or (put_mid left (right - left) row part) k d ≡ cond (leb left k && ltb k right)
    (f k (get_or row k d)) (get_or row k d)
part_written f row part left right k d order fits in_row len made =
    ⊎_elim
    (λ (below : k < left).
    let test : (leb left k && ltb k right) ≡ false = grind (arith, nat_tests) in
    part_below left (right - left) k row part d below (omega arith)
    ∙ sym (cond-false (leb left k && ltb k right) _ _ test))
    (λ (from : left ≤ k).
    ⊎_elim
    (λ (within : k < right).
    let test : (leb left k && ltb k right) ≡ true = grind (arith, nat_tests) in
    let at : left + (k - left) ≡ k = omega arith in
    part_within left (right - left) k (k - left) row part d (omega arith) (omega arith)
    (omega arith)
    ∙ (made (k - left) (omega arith)
    ∙ (ap (λ (n : ℕ). f n (get_or (mid_of left (right - left) row) (k - left) d)) at
    ∙ (ap (f k) (part_old left (right - left) k (k - left) row d (omega arith) (omega arith))
    ∙ sym (cond-true (leb left k && ltb k right) _ _ test)))))
    (λ (above : right ≤ k).
    let test : (leb left k && ltb k right) ≡ false = grind (arith, nat_tests) in
    part_above left (right - left) k row part d (omega arith) len (omega arith)
    ∙ sym (cond-false (leb left k && ltb k right) _ _ test))
    (cases_lt k right))
    (cases_lt k left)
