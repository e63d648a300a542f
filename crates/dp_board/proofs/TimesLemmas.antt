-- How many times a group is among some.
use Rattle.std.proofs.Common.{◌≡◌, ◌≢◌, ℕ, ◌+◌, ◌-◌, ◌<◌, ◌≤◌, ◌==◌, Bool, true, false, ◌||◌, cond}
use Rattle.std.proofs.Common.{List, [], ◌∷◌, ◌++◌, length, take, drop, Some, None, refl, ap}
use Rattle.std.proofs.Common.{sym, ◌∙◌, arith, eq-eqb, subst, inl, inr}
use Rattle.std.specs.Prelude.{if◌then◌else◌}
use Rattle.std.specs.List.{find}
use Rattle.std.proofs.lemmas.Bool.{eqb-true, ne_eqb, cases_eq}
use Rattle.std.proofs.lemmas.List.{take_more, take_all, take-append-drop}
use Rattle.std.proofs.lemmas.Option.{slice_get_within, get_or_from_slice_get}
use Rattle.dp_board.specs.Strokes.{is_among, last_of, without_last, without}

-- 1 if a test passes
abbrev pub one : Bool → ℕ
one true = 1
one false = 0

-- how many times a group is among some
abbrev pub times : ℕ → List ℕ → ℕ
times h [] = 0
times h (x ∷ xs) = one (x == h) + times h xs

pub one_le : (b : Bool) → one b ≤ 1
one_le true = omega arith
one_le false = omega arith

-- a name counts for itself
pub one_same : (x y : ℕ) → x ≡ y → one (x == y) ≡ 1
one_same x y same = ap one (eq-eqb x y same)

-- another name does not count
pub one_other : (x y : ℕ) → x ≢ y → one (x == y) ≡ 0
one_other x y differ = ap one (ne_eqb x y differ)

pub times-append : (h : ℕ) (xs ys : List ℕ) → times h (xs ++ ys) ≡ times h xs + times h ys
times-append h [] ys = omega arith
times-append h (x ∷ xs) ys = omega (arith, times-append h xs ys)

pub times-drop : (h n : ℕ) (xs : List ℕ) → times h (drop n xs) ≤ times h xs
times-drop h n xs =
    omega (arith, times-append h (take n xs) (drop n xs), ap (times h) (take-append-drop n xs))

none_head : (b r : Bool) (n : ℕ) → one b + n ≡ 0 → (n ≡ 0 → r ≡ false) → (b || r) ≡ false
none_head true r n none rest = absurd (omega arith)
none_head false r n none rest = rest (omega arith)

some_head : (b r : Bool) (n : ℕ) → (b || r) ≡ true → (r ≡ true → 1 ≤ n) → 1 ≤ one b + n
some_head true r n is rest = omega arith
some_head false r n is rest = let k : 1 ≤ n = rest is in omega arith

absent_head : (b r : Bool) (n : ℕ) → (b || r) ≡ false → (r ≡ false → n ≡ 0) → one b + n ≡ 0
absent_head true r n is rest = cc
absent_head false r n is rest = let k : n ≡ 0 = rest is in omega arith

present_head : (b r : Bool) (n : ℕ) → 1 ≤ one b + n → (1 ≤ n → r ≡ true) → (b || r) ≡ true
present_head true r n is rest = refl
present_head false r n is rest = rest (omega arith)

-- a group of no times is not among them
pub is_among-none : (xs : List ℕ) (h : ℕ) → times h xs ≡ 0 → is_among xs h ≡ false
is_among-none [] h none = refl
is_among-none (x ∷ xs) h none =
    none_head (x == h) (is_among xs h) (times h xs) none (is_among-none xs h)

pub is_among-some : (xs : List ℕ) (h : ℕ) → 1 ≤ times h xs → is_among xs h ≡ true
is_among-some [] h some = absurd (omega arith)
is_among-some (x ∷ xs) h some =
    present_head (x == h) (is_among xs h) (times h xs) some (is_among-some xs h)

-- one that is not among them has no times
pub times-none : (xs : List ℕ) (h : ℕ) → is_among xs h ≡ false → times h xs ≡ 0
times-none [] h none = refl
times-none (x ∷ xs) h none =
    absent_head (x == h) (is_among xs h) (times h xs) none (times-none xs h)

pub times-some : (xs : List ℕ) (h : ℕ) → is_among xs h ≡ true → 1 ≤ times h xs
times-some [] h some = let wrong : false ≡ true = some in cc
times-some (x ∷ xs) h some =
    some_head (x == h) (is_among xs h) (times h xs) some (times-some xs h)

-- the last and those before it
pub without_last-push : (xs : List ℕ) (g : ℕ) → last_of xs ≡ Some g → without_last xs ++ g ∷ [] ≡ xs
without_last-push xs g is =
    let i : ℕ = length xs - 1 in
    let inside : i < length xs = slice_get_within xs i g is in
    ap (λ x. take i xs ++ x ∷ []) (sym (get_or_from_slice_get xs i g 0 is))
    ∙ sym (take_more xs i 0 inside)
    ∙ take_all (i + 1) xs (omega arith)

-- what is among them counts at least once
one-times : (h g : ℕ) (xs : List ℕ) → 1 ≤ times g xs → one (g == h) ≤ times h xs
one-times h g xs some = elim (cases_eq g h) [
  | inl same ↦ let k : 1 ≤ times h xs = subst (λ y. 1 ≤ times y xs) same some in
      omega (arith, one_le (g == h))
  | inr differ ↦ omega (arith, one_other g h differ)
]

-- a choice, by its cases
pub if_cases : {A : Type 0} → (Q : A → Type 0) (b : Bool) (x y : A) → (b ≡ true → Q x)
    → (b ≡ false → Q y) → Q (if b then x else y)
if_cases Q true x y holds fails = holds refl
if_cases Q false x y holds fails = fails refl

-- what is taken out counts once less
pub times-without : (h g : ℕ) (xs : List ℕ) → 1 ≤ times g xs
    → times h (without g xs) + one (g == h) ≡ times h xs
times-without h g [] some = absurd (omega arith)
times-without h g (x ∷ xs) some =
    let here : x == g ≡ true → times h xs ≡ times h (x ∷ xs) - one (g == h) =
    λ same. let e : x ≡ g = eqb-true x g same in
    let k : one (x == h) ≡ one (g == h) = ap (λ y. one (y == h)) e in omega arith in
    let later : x == g ≡ false → times h (x ∷ without g xs) ≡ times h (x ∷ xs) - one (g == h) =
    λ other. let k : one (x == g) ≡ 0 = ap one other in
    let rest : times h (without g xs) + one (g == h) ≡ times h xs =
    times-without h g xs (omega arith) in omega arith in
    let all : times h (without g (x ∷ xs)) ≡ times h (x ∷ xs) - one (g == h) =
    if_cases (λ ys. times h ys ≡ times h (x ∷ xs) - one (g == h)) (x == g) xs
    (x ∷ without g xs) here later in
    let enough : one (g == h) ≤ times h (x ∷ xs) = one-times h g (x ∷ xs) some in
    omega arith

-- the first that passes, by whether the head does
found : (p : ℕ → Bool) (x g : ℕ) (xs : List ℕ) (b : Bool) → p x ≡ b
    → cond b (Some x) (find p xs) ≡ Some g
    → (find p xs ≡ Some g → (1 ≤ times g xs) × (p g ≡ true))
    → (1 ≤ times g (x ∷ xs)) × (p g ≡ true)
found p x g xs true at is rest =
    let same : x ≡ g = cc in
    (omega (arith, one_same x g same), subst (λ y. p y ≡ true) same at)
found p x g xs false at is rest = let r = rest is in (omega (arith, r.0), r.1)

-- the first that passes is among them, and passes
pub find-among : (p : ℕ → Bool) (xs : List ℕ) (g : ℕ) → find p xs ≡ Some g
    → (1 ≤ times g xs) × (p g ≡ true)
find-among p [] g is = let wrong : None ≡ Some g = is in cc
find-among p (x ∷ xs) g is = found p x g xs (p x) refl is (find-among p xs g)
