-- Tests of the numbers of a range.
use Rattle.std.proofs.Common.{◌≡◌, ℕ, zero, suc, ◌+◌, ◌<◌, ◌≤◌, Bool, true, false, ◌&&◌, ◌||◌, cond}
use Rattle.std.proofs.Common.{List, [], ◌∷◌, ◌++◌, None, Some, is_some, refl, sym, ap, ◌∙◌, ⊎_elim}
use Rattle.std.proofs.Common.{arith}
use Rattle.std.specs.List.{find, filter, list_any, range_with_len}
use Rattle.std.proofs.lemmas.Bool.{cases_lt, cases_Bool, cases_eq, eq-eqb, ne_eqb}
use Rattle.dp_acl.specs.LookBack.{lists}
use Rattle.dp_epochs.specs.State.{user_ids}

-- the first number that passes is found
pub find-first : (p : ℕ → Bool) (low n k : ℕ) → low ≤ k → k < low + n → p k ≡ true
    → ((j : ℕ) → low ≤ j → j < k → p j ≡ false) → find p (range_with_len low n) ≡ Some k
find-first p low zero k above below passes fails = absurd (omega arith)
find-first p low (suc n) k above below passes fails =
    ⊎_elim (λ (less : low < k).
    ap (λ b. cond b (Some low) (find p (range_with_len (low + 1) n))) (fails low (omega arith) less)
    ∙ find-first p (low + 1) n k (omega arith) (omega arith) passes
    (λ j from to. fails j (omega arith) to))
    (λ (same : k ≤ low).
    let e : low ≡ k = omega arith in
    ap (λ b. cond b (Some low) (find p (range_with_len (low + 1) n))) (ap p e ∙ passes) ∙ ap Some e)
    (cases_lt low k)

-- none is found if none passes
pub find-none : (p : ℕ → Bool) (low n : ℕ) → ((j : ℕ) → low ≤ j → j < low + n → p j ≡ false)
    → find p (range_with_len low n) ≡ None
find-none p low zero fails = refl
find-none p low (suc n) fails =
    ap (λ b. cond b (Some low) (find p (range_with_len (low + 1) n)))
    (fails low (omega arith) (omega arith))
    ∙ find-none p (low + 1) n (λ j from to. fails j (omega arith) (omega arith))

-- tests that agree within the range find the same
pub find-same : (p q : ℕ → Bool) (low n : ℕ) → ((k : ℕ) → low ≤ k → k < low + n → p k ≡ q k)
    → find p (range_with_len low n) ≡ find q (range_with_len low n)
find-same p q low zero same = refl
find-same p q low (suc n) same =
    ap (λ b. cond b (Some low) (find p (range_with_len (low + 1) n)))
    (same low (omega arith) (omega arith))
    ∙ ap (λ o. cond (q low) (Some low) o)
    (find-same p q (low + 1) n (λ k from to. same k (omega arith) (omega arith)))

-- tests that agree within the range keep the same
pub filter-range_same : (p q : ℕ → Bool) (low n : ℕ) → ((k : ℕ) → low ≤ k → k < low + n → p k ≡ q k)
    → filter p (range_with_len low n) ≡ filter q (range_with_len low n)
filter-range_same p q low zero same = refl
filter-range_same p q low (suc n) same =
    ap (λ b. cond b (low ∷ filter p (range_with_len (low + 1) n))
    (filter p (range_with_len (low + 1) n)))
    (same low (omega arith) (omega arith))
    ∙ ap (λ xs. cond (q low) (low ∷ xs) xs)
    (filter-range_same p q (low + 1) n (λ k from to. same k (omega arith) (omega arith)))

some_is : (a b : ℕ) → Some a ≡ Some b → a ≡ b
some_is a b e = cc

-- what is found passes
pub find-passes : (p : ℕ → Bool) (low n k : ℕ) → find p (range_with_len low n) ≡ Some k
    → (k < low + n) × (p k ≡ true)
find-passes p low zero k found = cc
find-passes p low (suc n) k found =
    ⊎_elim (λ (here : p low ≡ true).
    let e : low ≡ k = some_is low k (sym (ap (λ b. cond b (Some low)
    (find p (range_with_len (low + 1) n))) here) ∙ found) in
    (omega arith, ap p (sym e) ∙ here))
    (λ (other : p low ≡ false).
    let h = find-passes p (low + 1) n k (sym (ap (λ b. cond b (Some low)
    (find p (range_with_len (low + 1) n))) other) ∙ found) in
    (omega (arith, h.0), h.1))
    (cases_Bool (p low))

-- some item passes exactly if one is found
pub list_any-find : {X : Type 0} (p : X → Bool) (xs : List X) → list_any p xs ≡ is_some (find p xs)
list_any-find p [] = refl
list_any-find p (x ∷ xs) =
    elim (p x) as (λ b. (b || list_any p xs) ≡ is_some (cond b (Some x) (find p xs))) [
      | true ↦ refl
      | false ↦ list_any-find p xs
    ]

-- some number among those kept by one test passes another
pub list_any-filter : {X : Type 0} (p q : X → Bool) (xs : List X)
    → list_any p (filter q xs) ≡ list_any (λ x. q x && p x) xs
list_any-filter p q [] = refl
list_any-filter p q (x ∷ xs) =
    elim (q x) as (λ b. list_any p (cond b (x ∷ filter q xs) (filter q xs))
    ≡ ((b && p x) || list_any (λ y. q y && p y) xs)) [
      | true ↦ ap (λ b. p x || b) (list_any-filter p q xs)
      | false ↦ list_any-filter p q xs
    ]

-- ---- the ids of users

-- they are the numbers from 1 on, 254 of them
pub user_ids-are : (n : ℕ) → n ≡ 254 → range_with_len 1 n ≡ user_ids
unfolding user_ids
user_ids-are n count = ap (range_with_len 1) count

-- the first id that passes is found
pub find_user-first : (p : ℕ → Bool) (k : ℕ) → 1 ≤ k → k < 255 → p k ≡ true
    → ((j : ℕ) → 1 ≤ j → j < k → p j ≡ false) → find p user_ids ≡ Some k
unfolding user_ids
find_user-first p k above below passes fails = find-first p 1 254 k above (omega arith) passes fails

-- none is found if none passes
pub find_user-none : (p : ℕ → Bool) → ((j : ℕ) → 1 ≤ j → j < 255 → p j ≡ false)
    → find p user_ids ≡ None
unfolding user_ids
find_user-none p fails = find-none p 1 254 (λ j from to. fails j from (omega arith))

-- tests that agree on users find the same
pub find_user-same : (p q : ℕ → Bool) → ((k : ℕ) → k < 256 → p k ≡ q k)
    → find p user_ids ≡ find q user_ids
unfolding user_ids
find_user-same p q same = find-same p q 1 254 (λ k from to. same k (omega arith))

-- a user that is found passes, and is a user
pub find_user-passes : (p : ℕ → Bool) (k : ℕ) → find p user_ids ≡ Some k → (k < 256) × (p k ≡ true)
unfolding user_ids
find_user-passes p k found = let h = find-passes p 1 254 k found in (omega arith, h.1)

-- tests that agree on users are passed alike
pub any_user-same : (p q : ℕ → Bool) → ((k : ℕ) → k < 256 → p k ≡ q k)
    → list_any p user_ids ≡ list_any q user_ids
any_user-same p q same =
    list_any-find p user_ids ∙ ap is_some (find_user-same p q same) ∙ sym (list_any-find q user_ids)

-- both tests are passed
pub both : {a b : Bool} → a ≡ true → b ≡ true → (a && b) ≡ true
both {a} {b} x y = ap (λ t. t && b) x ∙ y

-- ---- lists of ids

listed-range : (p : ℕ → Bool) (low n user : ℕ) → low ≤ user → user < low + n
    → lists (filter p (range_with_len low n)) user ≡ p user
listed-range p low zero user above below = absurd (omega arith)
listed-range p low (suc n) user above below =
    ⊎_elim (λ (same : low ≡ user). first same (p low) refl)
    (λ (other : low ≡ user → ⊥).
    elim (p low) as (λ b. lists (cond b (low ∷ filter p (range_with_len (low + 1) n))
    (filter p (range_with_len (low + 1) n))) user ≡ p user) [
      | true ↦
          ap (λ b. b || lists (filter p (range_with_len (low + 1) n)) user) (ne_eqb low user other)
          ∙ listed-range p (low + 1) n user (omega arith) (omega arith)
      | false ↦ listed-range p (low + 1) n user (omega arith) (omega arith)
    ])
    (cases_eq low user)
  where
    none : (k m : ℕ) → user < k → lists (filter p (range_with_len k m)) user ≡ false
    none k zero apart = refl
    none k (suc m) apart =
        elim (p k) as (λ b. lists (cond b (k ∷ filter p (range_with_len (k + 1) m))
        (filter p (range_with_len (k + 1) m))) user ≡ false) [
          | true ↦
              ap (λ b. b || lists (filter p (range_with_len (k + 1) m)) user)
              (ne_eqb k user (λ e. omega arith))
              ∙ none (k + 1) m (omega arith)
          | false ↦ none (k + 1) m (omega arith)
        ]

    first : low ≡ user → (b : Bool) → p low ≡ b
        → lists (cond (p low) (low ∷ filter p (range_with_len (low + 1) n))
        (filter p (range_with_len (low + 1) n))) user ≡ p user
    first same true is =
        ap (λ b. lists (cond b (low ∷ filter p (range_with_len (low + 1) n))
        (filter p (range_with_len (low + 1) n))) user) is
        ∙ ap (λ b. b || lists (filter p (range_with_len (low + 1) n)) user) (eq-eqb low user same)
        ∙ sym is ∙ ap p same
    first same false is =
        ap (λ b. lists (cond b (low ∷ filter p (range_with_len (low + 1) n))
        (filter p (range_with_len (low + 1) n))) user) is
        ∙ none (low + 1) n (omega (arith, same))
        ∙ sym is ∙ ap p same

-- an id of a user is among those that pass exactly if it passes
pub lists-user : (p : ℕ → Bool) (user : ℕ) → 1 ≤ user → user ≤ 254
    → lists (filter p user_ids) user ≡ p user
unfolding user_ids
lists-user p user above below = listed-range p 1 254 user above (omega arith)

-- one more number of a range
pub range-more : (low n : ℕ) → range_with_len low (suc n) ≡ range_with_len low n ++ (low + n) ∷ []
range-more low zero = ap (λ k. k ∷ []) (omega arith)
range-more low (suc n) =
    ap (λ xs. low ∷ xs) (range-more (low + 1) n ∙ ap (λ k. range_with_len (low + 1) n ++ k ∷ [])
    (omega arith))
