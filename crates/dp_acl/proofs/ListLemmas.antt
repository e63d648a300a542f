-- Facts on lists that std lacks.
use Rattle.std.proofs.Common.{◌≡◌, ℕ, zero, suc, ◌+◌, ◌<◌, ◌≤◌, ◌==◌, Bool, true, false, ◌&&◌, ◌||◌}
use Rattle.std.proofs.Common.{cond, List, [], ◌∷◌, ◌++◌, All, refl, sym, ap, subst, ◌∙◌, inl, inr}
use Rattle.std.proofs.Common.{arith, append-nil, zero-add}
use Rattle.std.specs.List.{filter, range_with_len}
use Rattle.std.proofs.lemmas.Bool.{cases_eq, cond-true, cond-false, eq-eqb, ne_eqb, eqb-true}
use Rattle.std.proofs.lemmas.List.{map-id}
use Rattle.std.proofs.lemmas.List.Elements.{All-head, All-tail, filter-append}
use Rattle.std.proofs.lemmas.Map.Views.{any-filter_same}
use Rattle.std.proofs.lemmas.List.FromFn.{length-range_with_len, get_or-range_with_len}
use Rattle.std.proofs.lemmas.List.FromFn.{map-range_with_len_more}
use Rattle.std.proofs.Math.Bool.{and-true}
use Rattle.dp_acl.specs.LookBack.{numbers_below, lists}

-- two tests that agree on the items keep the same ones
pub filter-same : {X : Type 0} (p q : X → Bool) (xs : List X) → All (λ x. p x ≡ q x) xs
    → filter p xs ≡ filter q xs
filter-same p q [] same = refl
filter-same p q (x ∷ xs) same =
    ap (λ b. cond b (x ∷ filter p xs) (filter p xs)) (All-head (λ y. p y ≡ q y) x xs same)
    ∙ ap (λ ys. cond (q x) (x ∷ ys) ys)
    (filter-same p q xs (All-tail (λ y. p y ≡ q y) x xs same))

-- a test that no item passes keeps none
pub filter-none : {X : Type 0} (xs : List X) → filter (λ _. false) xs ≡ []
filter-none [] = refl
filter-none (x ∷ xs) = filter-none xs

-- the numbers of a range lie within it
pub All-range : (P : ℕ → Type 0) (low n : ℕ) → ((k : ℕ) → low ≤ k → k < low + n → P k)
    → All P (range_with_len low n)
All-range P low n each k d short =
    let lt : k < n = omega (arith, length-range_with_len low n) in
    subst P (sym (get_or-range_with_len low n k d lt)) (each (low + k) (omega arith) (omega arith))

-- the numbers below n are below n
pub All-numbers : (P : ℕ → Type 0) (n : ℕ) → ((k : ℕ) → k < n → P k) → All P (numbers_below n)
unfolding numbers_below
All-numbers P n each = All-range P 0 n (λ k _ lt. each k (omega arith))

-- tests that agree below n keep the same numbers below n
pub filter-numbers : (p q : ℕ → Bool) (n : ℕ) → ((k : ℕ) → k < n → p k ≡ q k)
    → filter p (numbers_below n) ≡ filter q (numbers_below n)
filter-numbers p q n same =
    filter-same p q (numbers_below n) (All-numbers (λ k. p k ≡ q k) n same)

lists-range : (low n id : ℕ) → low ≤ id → id < low + n → lists (range_with_len low n) id ≡ true
lists-range low zero id above below = absurd (omega arith)
lists-range low (suc n) id above below = elim (cases_eq low id) [
  | inl same ↦ ap (λ b. b || lists (range_with_len (low + 1) n) id) (eq-eqb low id same)
  | inr other ↦ ap (λ b. b || lists (range_with_len (low + 1) n) id) (ne_eqb low id other)
      ∙ lists-range (low + 1) n id (omega arith) (omega arith)
]

-- a number below n is among them
pub lists-numbers : (n id : ℕ) → id < n → lists (numbers_below n) id ≡ true
unfolding numbers_below
lists-numbers n id lt = lists-range 0 n id (omega arith) (omega arith)

-- a number below n is among those that pass a test exactly if it passes
pub lists-filter : (p : ℕ → Bool) (n id : ℕ) → id < n → lists (filter p (numbers_below n)) id ≡ p id
lists-filter p n id lt =
    any-filter_same (λ o. o == id) p (p id) (λ k same. ap p (eqb-true k id same)) (numbers_below n)
    ∙ ap (λ b. p id && b) (lists-numbers n id lt)
    ∙ and-true (p id)

-- if no number below n passes, no test is true
pub filter-numbers_nil : (p : ℕ → Bool) (n id : ℕ) → filter p (numbers_below n) ≡ [] → id < n
    → p id ≡ false
filter-numbers_nil p n id none lt =
    sym (lists-filter p n id lt) ∙ ap (λ ids. lists ids id) none

-- one more number
pub numbers_below-more : (n : ℕ) → numbers_below (n + 1) ≡ numbers_below n ++ n ∷ []
unfolding numbers_below
numbers_below-more n =
    sym (map-id (range_with_len 0 (n + 1)))
    ∙ map-range_with_len_more (λ k. k) 0 n n (zero-add n)
    ∙ ap (λ xs. xs ++ n ∷ []) (map-id (range_with_len 0 n))

-- the numbers below n + 1 that pass a test
pub filter-numbers_more : (p : ℕ → Bool) (n : ℕ)
    → filter p (numbers_below (n + 1)) ≡ filter p (numbers_below n) ++ cond (p n) (n ∷ []) []
filter-numbers_more p n =
    ap (filter p) (numbers_below-more n) ∙ filter-append p (numbers_below n) (n ∷ [])

-- no number is below 0
pub filter-numbers_none : (p : ℕ → Bool) → filter p (numbers_below 0) ≡ []
unfolding numbers_below
filter-numbers_none p = refl

-- the ids so far with one more number, whether it passes or not
pub filter-numbers_yes : (p : ℕ → Bool) (n : ℕ) (xs ys : List ℕ) → xs ≡ filter p (numbers_below n)
    → p n ≡ true
    → ys ≡ xs ++ n ∷ [] → ys ≡ filter p (numbers_below (n + 1))
filter-numbers_yes p n xs ys so_far passes more =
    more ∙ ap (λ zs. zs ++ n ∷ []) so_far
    ∙ ap (λ zs. filter p (numbers_below n) ++ zs) (sym (cond-true (p n) (n ∷ []) [] passes))
    ∙ sym (filter-numbers_more p n)

pub filter-numbers_no : (p : ℕ → Bool) (n : ℕ) (xs : List ℕ) → xs ≡ filter p (numbers_below n)
    → p n ≡ false
    → xs ≡ filter p (numbers_below (n + 1))
filter-numbers_no p n xs so_far fails =
    so_far ∙ sym (append-nil (filter p (numbers_below n)))
    ∙ ap (λ zs. filter p (numbers_below n) ++ zs) (sym (cond-false (p n) (n ∷ []) [] fails))
    ∙ sym (filter-numbers_more p n)
