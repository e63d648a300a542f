-- Rows of which a part is changed, row after row.
use Rattle.std.proofs.Common.{◌≡◌, ℕ, ◌+◌, ◌-◌, ◌*◌, ◌/◌, ◌%◌, ◌<◌, ◌≤◌, List, length, map}
use Rattle.std.proofs.Common.{drop, get_or, true, false, sym, ◌∙◌, ap}
use Rattle.std.proofs.Common.{subst, arith, ⊎_elim, length-append}
use Rattle.std.specs.Prelude.{if◌then◌else◌}
use Rattle.std.proofs.lemmas.Bool.{cases_lt, cond-true, cond-false}
use Rattle.std.proofs.lemmas.Bool.Decides.{nat_tests}
use Rattle.std.proofs.lemmas.List.{get_or-take, get_or-drop, length-take-le, length-take}
use Rattle.std.proofs.lemmas.List.{length-drop, length-map, get_or-map}
use Rattle.std.proofs.lemmas.Nat.{div-add-mod', mod_below, div_below}
use Rattle.std.proofs.Math.Nat.{mul-le-mul_right}
use Rattle.dp_blend.specs.Color.{Channels}
use Rattle.dp_blend.specs.Blending.{is_between}
use Rattle.dp_blend.proofs.Written.{part_above, part_below, part_within}
use borrow.Rule.Slice.PartMut.{mid_of, put_mid}

-- ---- rows of which a part is changed

-- of some rows the first j are changed by f from column left on before right, and the rest stays
pub record FilledTo (f : Channels → Channels) (left right stride j : ℕ) (old now : List Channels)
    : Type 0 where
  pub count : length now ≡ length old
  pub done : (i x : ℕ) (d : Channels) → i < j → x < stride → i * stride + x < length old
      → get_or now (i * stride + x) d ≡ (if is_between left right x
      then f (get_or old (i * stride + x) d)
      else get_or old (i * stride + x) d)
  pub rest : (k : ℕ) (d : Channels) → j * stride ≤ k → k < length old
      → get_or now k d ≡ get_or old k d

-- a pixel after f, if it is in a column from one on before another
abbrev pub changed_between : (Channels → Channels) → ℕ → ℕ → ℕ → Channels → Channels
changed_between f left right x p = if is_between left right x then f p else p

-- one more row is changed
pub filled-more : (f : Channels → Channels) (left right stride size j : ℕ)
    (old now part : List Channels)
    → size ≡ stride → j < length old / stride
    → length part ≡ length (mid_of (j * stride) size now)
    → ((x : ℕ) (d : Channels) → x < length (mid_of (j * stride) size now)
    → get_or part x d ≡ changed_between f left right x (get_or (mid_of (j * stride) size now) x d))
    → FilledTo f left right stride j old now
    → FilledTo f left right stride (j + 1) old (put_mid (j * stride) size now part)
filled-more f left right stride size j old now part size_is is_row long made before =
    let start = j * stride in
    let whole = div-add-mod' (length old) stride in
    let rows : (j + 1) * stride ≤ length old / stride * stride =
    mul-le-mul_right stride (omega arith) in
    let room : j * stride + stride ≤ length old = omega arith in
    let mid = mid_of start size now in
    let fits : start ≤ length now = omega (arith, before.count) in
    let rest : length (drop start now) ≡ length now - start = length-drop start now in
    let mid_len : length mid ≡ stride = omega
    (arith, before.count, length-take size (drop start now)) in
    let len : length part ≡ size = long ∙ mid_len ∙ sym size_is in
    let here : (x : ℕ) (d : Channels) → x < stride
    → get_or (put_mid start size now part) (start + x) d
    ≡ changed_between f left right x (get_or old (start + x) d) = λ x d in_row.
    part_within start size (start + x) x now part d (omega arith) (omega arith) fits
    ∙ made x d (omega arith)
    ∙ ap (changed_between f left right x)
    (get_or-take size (drop start now) x d (omega arith) ∙ get_or-drop start now x d
    ∙ before.rest (start + x) d (omega arith) (omega arith)) in
    record {
      count =
          let taken = length-take-le start now fits in
          let left_out = length-drop size (drop start now) in
          simp (length-append) (omega (arith, before.count));
      done = λ i x d row in_row in_list.
          ⊎_elim
          (λ (earlier : i < j).
          let rows : (i + 1) * stride ≤ start = mul-le-mul_right stride (omega arith) in
          part_below start size (i * stride + x) now part d (omega arith) fits
          ∙ before.done i x d earlier in_row in_list)
          (λ (not_earlier : j ≤ i).
          let same : i ≡ j = omega arith in
          subst (λ (n : ℕ). get_or (put_mid start size now part) (n * stride + x) d
          ≡ changed_between f left right x (get_or old (n * stride + x) d)) (sym same)
          (here x d in_row))
          (cases_lt i j);
      rest = λ k d later in_list.
          part_above start size k now part d (omega arith) len fits
          ∙ before.rest k d (omega arith) in_list;
    }

-- once all rows are changed, each place is
pub filled-all : (f : Channels → Channels) (left right stride j : ℕ) (old now : List Channels)
    → 0 < stride → length old % stride ≡ 0 → j ≡ length old / stride
    → FilledTo f left right stride j old now → (k : ℕ) (d : Channels) → k < length old
    → get_or now k d ≡ (if is_between left right (k % stride)
    then f (get_or old k d) else get_or old k d)
filled-all f left right stride j old now some whole last filled k d in_list =
    let rows = div-add-mod' (length old) stride in
    let all : length old ≤ j * stride = rw last (omega arith) in
    let at : k / stride * stride + k % stride ≡ k = div-add-mod' k stride in
    let row : k / stride < j = div_below k stride j some (omega arith) in
    subst (λ (n : ℕ). get_or now n d ≡ (if is_between left right (k % stride)
    then f (get_or old n d) else get_or old n d)) at
    (filled.done (k / stride) (k % stride) d row (mod_below k stride some) (omega arith))

-- ---- one row of which a part is changed

-- a part of a row is changed, and put in its place
pub part_filled : (f : Channels → Channels) (left right size : ℕ) (old part : List Channels)
    → left ≤ right → right ≤ length old → size ≡ right - left
    → part ≡ map f (mid_of left size old)
    → (x : ℕ) (d : Channels) → x < length old
    → get_or (put_mid left size old part) x d
    ≡ changed_between f left right x (get_or old x d)
part_filled f left right size old part order within size_is made x d in_row =
    let mid = mid_of left size old in
    let fits : left ≤ length old = omega arith in
    let rest : length (drop left old) ≡ length old - left = length-drop left old in
    let mid_len : length mid ≡ size = omega (arith, length-take size (drop left old)) in
    let len : length part ≡ size = ap length made ∙ (length-map mid f ∙ mid_len) in
    ⊎_elim
    (λ (is_left : x < left).
    let test : is_between left right x ≡ false = grind (arith, nat_tests) in
    part_below left size x old part d is_left fits
    ∙ sym (cond-false (is_between left right x) _ _ test))
    (λ (from : left ≤ x).
    ⊎_elim
    (λ (to : x < right).
    let test : is_between left right x ≡ true = grind (arith, nat_tests) in
    let at : left + (x - left) ≡ x = omega arith in
    let few : x - left < length mid = omega arith in
    part_within left size x (x - left) old part d (omega arith) (omega arith) fits
    ∙ (ap (λ ys. get_or ys (x - left) d) made
    ∙ (get_or-map f mid (x - left) d d few
    ∙ (ap f (get_or-take size (drop left old) (x - left) d (omega arith)
    ∙ (get_or-drop left old (x - left) d ∙ ap (λ n. get_or old n d) at))
    ∙ sym (cond-true (is_between left right x) _ _ test)))))
    (λ (above : right ≤ x).
    let test : is_between left right x ≡ false = grind (arith, nat_tests) in
    part_above left size x old part d (omega arith) len fits
    ∙ sym (cond-false (is_between left right x) _ _ test))
    (cases_lt x right))
    (cases_lt x left)
