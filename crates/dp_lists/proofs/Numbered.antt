-- Items of a list that are numbered from 1.
use Rattle.std.proofs.Common.{◌≡◌, ◌⊎◌, ℕ, zero, suc, ◌+◌, ◌-◌, ◌<◌, ◌==◌, Bool, true, false}
use Rattle.std.proofs.Common.{if◌then◌else◌}
use Rattle.std.proofs.Common.{List, [], ◌∷◌, ◌++◌, length, take, Option, None, Some}
use Rattle.std.proofs.Common.{refl, sym, ap, subst, ◌∙◌, ⊎_elim, inl, inr, arith}
use Rattle.std.specs.Prelude.{slice_set}
use Rattle.std.specs.List.{slice_get}
use Rattle.std.proofs.lemmas.Bool.{eqb-false, ne_eqb}
use Rattle.dp_lists.specs.Numbered.{numbered}
use Rattle.dp_lists.proofs.Options.{cases_option}

get_other : {X : Type 0} (xs : List X) (i j : ℕ) (y : X) → (j ≡ i → ⊥)
    → slice_get (slice_set xs i y) j ≡ slice_get xs j
get_other [] i j y ne = refl
get_other (x ∷ xs) zero zero y ne = absurd (ne refl)
get_other (x ∷ xs) zero (suc j) y ne = refl
get_other (x ∷ xs) (suc i) zero y ne = refl
get_other (x ∷ xs) (suc i) (suc j) y ne = get_other xs i j y (λ e. ne (ap suc e))

get_same : {X : Type 0} (xs : List X) (i : ℕ) (x y : X) → slice_get xs i ≡ Some x
    → slice_get (slice_set xs i y) i ≡ Some y
get_same [] i x y is = cc
get_same (z ∷ xs) zero x y is = refl
get_same (z ∷ xs) (suc i) x y is = get_same xs i x y is

get_old : {X : Type 0} (xs ys : List X) (i : ℕ) (x : X) → slice_get xs i ≡ Some x
    → slice_get (xs ++ ys) i ≡ Some x
get_old [] ys i x is = cc
get_old (z ∷ xs) ys zero x is = is
get_old (z ∷ xs) ys (suc i) x is = get_old xs ys i x is

get_either : {X : Type 0} (xs : List X) (y : X) (i : ℕ) (x : X)
    → slice_get (xs ++ y ∷ []) i ≡ Some x
    → (slice_get xs i ≡ Some x) ⊎ ((i ≡ length xs) × (x ≡ y))
get_either [] y zero x is = inr (refl, cc)
get_either [] y (suc i) x is = cc
get_either (z ∷ xs) y zero x is = inl is
get_either (z ∷ xs) y (suc i) x is =
    ⊎_elim (λ old. inl old) (λ (new : (i ≡ length xs) × (x ≡ y)). inr (ap suc new.0, new.1))
    (get_either xs y i x is)

get_new : {X : Type 0} (xs : List X) (y : X) → slice_get (xs ++ y ∷ []) (length xs) ≡ Some y
get_new [] y = refl
get_new (x ∷ xs) y = get_new xs y

get_past : {X : Type 0} (xs : List X) → slice_get xs (length xs) ≡ None
get_past [] = refl
get_past (x ∷ xs) = get_past xs

-- one more item after the first ones
pub take_one : {X : Type 0} (xs : List X) (i : ℕ) (x : X) → slice_get xs i ≡ Some x
    → take (suc i) xs ≡ take i xs ++ x ∷ []
take_one [] i x is = cc
take_one (y ∷ xs) zero x is = let same : y ≡ x = cc in ap (λ z. z ∷ []) same
take_one (y ∷ xs) (suc i) x is = ap (λ zs. y ∷ zs) (take_one xs i x is)

if_none : {X : Type 0} (b : Bool) (o : Option X) (x : X) → (if b then None else o) ≡ Some x
    → (b ≡ false) × (o ≡ Some x)
if_none true o x is = cc
if_none false o x is = (refl, is)

if_other : {X : Type 0} (b : Bool) (o p : Option X) → (b ≡ false → o ≡ p)
    → (if b then None else o) ≡ (if b then None else p)
if_other true o p same = refl
if_other false o p same = same refl

-- a number of an item is above 0
pub number-found : {X : Type 0} (xs : List X) (i : ℕ) (x : X) → numbered xs i ≡ Some x
    → (0 < i) × (slice_get xs (i - 1) ≡ Some x)
number-found xs i x is =
    let found = if_none (i == 0) (slice_get xs (i - 1)) x is in
    let other : i ≡ 0 → ⊥ = eqb-false i 0 found.0 in
    (omega arith, found.1)

number-above : {X : Type 0} (xs : List X) (i : ℕ) → 0 < i → numbered xs i ≡ slice_get xs (i - 1)
number-above xs i above =
    ap (λ b. if b then None else slice_get xs (i - 1)) (ne_eqb i 0 (λ e. omega arith))

pub numbered-other : {X : Type 0} (xs : List X) (i j : ℕ) (y : X) → 0 < i → (j ≡ i → ⊥)
    → numbered (slice_set xs (i - 1) y) j ≡ numbered xs j
numbered-other xs i j y above ne =
    if_other (j == 0) (slice_get (slice_set xs (i - 1) y) (j - 1)) (slice_get xs (j - 1))
    (λ other. get_other xs (i - 1) (j - 1) y
    (λ same. let apart : j ≡ 0 → ⊥ = eqb-false j 0 other in ne (omega arith)))

pub numbered-same : {X : Type 0} (xs : List X) (i : ℕ) (x y : X) → numbered xs i ≡ Some x
    → numbered (slice_set xs (i - 1) y) i ≡ Some y
numbered-same xs i x y is =
    let found = number-found xs i x is in
    number-above (slice_set xs (i - 1) y) i found.0 ∙ get_same xs (i - 1) x y found.1

pub numbered-old : {X : Type 0} (xs ys : List X) (i : ℕ) (x : X) → numbered xs i ≡ Some x
    → numbered (xs ++ ys) i ≡ Some x
numbered-old xs ys i x is =
    let found = number-found xs i x is in
    number-above (xs ++ ys) i found.0 ∙ get_old xs ys (i - 1) x found.1

pub numbered-new : {X : Type 0} (xs : List X) (y : X) → numbered (xs ++ y ∷ []) (length xs + 1)
    ≡ Some y
numbered-new xs y =
    let less : length xs + 1 - 1 ≡ length xs = omega arith in
    number-above (xs ++ y ∷ []) (length xs + 1) (omega arith)
    ∙ ap (slice_get (xs ++ y ∷ [])) less ∙ get_new xs y

pub numbered-either : {X : Type 0} (xs : List X) (y : X) (i : ℕ) (x : X)
    → numbered (xs ++ y ∷ []) i ≡ Some x
    → (numbered xs i ≡ Some x) ⊎ ((i ≡ length xs + 1) × (x ≡ y))
numbered-either xs y i x is =
    let found = number-found (xs ++ y ∷ []) i x is in
    let above : 0 < i = found.0 in
    ⊎_elim (λ old. inl (number-above xs i above ∙ old))
    (λ (new : (i - 1 ≡ length xs) × (x ≡ y)). let at = new.0 in inr (omega arith, new.1))
    (get_either xs y (i - 1) x found.1)

-- no item has the number after the last
pub numbered-past : {X : Type 0} (xs : List X) (i : ℕ) → i ≡ length xs + 1 → numbered xs i ≡ None
numbered-past xs i is =
    let less : i - 1 ≡ length xs = omega arith in
    number-above xs i (omega arith) ∙ ap (slice_get xs) less ∙ get_past xs

-- a number that no item has had no item before one more came
pub numbered-none : {X : Type 0} (xs ys : List X) (i : ℕ) → numbered (xs ++ ys) i ≡ None
    → numbered xs i ≡ None
numbered-none xs ys i is =
    ⊎_elim (λ (no : numbered xs i ≡ None). no)
    (λ (yes : (x : _) × (numbered xs i ≡ Some x)).
    let old = numbered-old xs ys i yes.0 yes.1 in
    let e : None ≡ Some yes.0 = sym is ∙ old in cc)
    (cases_option (numbered xs i))
