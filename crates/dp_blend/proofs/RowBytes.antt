-- Rows of pixels whose bytes are put place by place.
use Rattle.std.proofs.Common.{◌≡◌, ℕ, ◌+◌, ◌<◌, ◌≤◌, ◌≢◌, List, [], length, get_or, set, map, refl}
use Rattle.std.proofs.Common.{sym, ap, ◌∙◌, arith, inl, inr, get_or-set_other}
use Rattle.std.proofs.lemmas.Bool.Decides.{eqb_tells}
use Rattle.std.proofs.lemmas.Grind.{get_or-set_at}
use Rattle.std.proofs.lemmas.List.{ext_get_or, get_or-map, get_or_default, length-map, length-set}
use Rattle.dp_blend.specs.Color.{Channels, clear}
use Rattle.dp_blend.specs.White.{rgb_on_white}

-- the bytes of the first k pixels are put
pub record PutTo (k : ℕ) (pixels : List Channels) (old now : List (List ℕ)) : Type 0 where
  pub count : length now ≡ length old
  pub done : (i : ℕ) → i < k → i < length old
      → get_or now i [] ≡ rgb_on_white (get_or pixels i clear)

-- those of one more pixel
pub put-more : (k n : ℕ) (pixels : List Channels) (old now written : List (List ℕ))
    → k < length old → n ≡ k + 1 → written ≡ set now k (rgb_on_white (get_or pixels k clear))
    → PutTo k pixels old now → PutTo n pixels old written
put-more k n pixels old now written inside more is before =
    let bytes = rgb_on_white (get_or pixels k clear) in
    record {
      count = ap length is ∙ length-set now k bytes ∙ before.count;
      done = λ i below in_row.
          ap (λ (l : List (List ℕ)). get_or l i []) is
          ∙ elim (eqb_tells i k) [
            | inl e ↦ get_or-set_at now k i bytes [] e.1 (omega (arith, before.count))
                ∙ ap (λ j. rgb_on_white (get_or pixels j clear)) (sym e.1)
            | inr e ↦
                let other : i ≢ k = e.1 in
                get_or-set_other now k i bytes [] other
                ∙ before.done i (omega (arith, other)) in_row
          ];
    }

-- those of four more pixels
pub put-four : (k n : ℕ) (pixels : List Channels) (old now written : List (List ℕ))
    → k + 3 < length old → n ≡ k + 4
    → written ≡ set (set (set (set now k (rgb_on_white (get_or pixels k clear)))
    (k + 1) (rgb_on_white (get_or pixels (k + 1) clear)))
    (k + 2) (rgb_on_white (get_or pixels (k + 2) clear)))
    (k + 3) (rgb_on_white (get_or pixels (k + 3) clear))
    → PutTo k pixels old now → PutTo n pixels old written
put-four k n pixels old now written inside more is before =
    let one = put-more k (k + 1) pixels old now _ (omega arith) refl refl before in
    let two = put-more (k + 1) (k + 2) pixels old _ _ (omega arith) (omega arith) refl one in
    let three = put-more (k + 2) (k + 3) pixels old _ _ (omega arith) (omega arith) refl two in
    put-more (k + 3) n pixels old _ written (omega arith) (omega arith) is three

-- once all are put, each pixel has its bytes
pub put-all : (k : ℕ) (pixels : List Channels) (old now : List (List ℕ))
    → length pixels ≡ length old → length old ≤ k → PutTo k pixels old now
    → now ≡ map rgb_on_white pixels
put-all k pixels old now same all put =
    let long : length (map rgb_on_white pixels) ≡ length pixels = length-map pixels rgb_on_white in
    ext_get_or [] now (map rgb_on_white pixels) (omega (arith, put.count, long))
    (λ i inside.
    let in_row : i < length pixels = omega (arith, put.count) in
    put.done i (omega (arith, put.count)) (omega (arith, put.count))
    ∙ sym (get_or-map rgb_on_white pixels i clear [] in_row))

-- what was read of a row, at any default
pub read_at : (row : List Channels) (i : ℕ) (p : Channels) → p ≡ get_or row i p → i < length row
    → p ≡ get_or row i clear
read_at row i p is inside = is ∙ get_or_default row i p clear inside
