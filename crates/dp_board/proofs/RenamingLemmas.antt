-- Lists of groups under a renaming that keeps different groups different.
use Rattle.std.proofs.Common.{◌≡◌, ℕ, zero, suc, ◌+◌, ◌-◌, ◌<◌, ◌≤◌, ◌==◌, ◌||◌, Bool, true, false}
use Rattle.std.proofs.Common.{if◌then◌else◌}
use Rattle.std.proofs.Common.{List, [], ◌∷◌, length, take, drop, map, Option, None, Some}
use Rattle.std.proofs.Common.{refl, sym, ap, ◌∙◌, ⊎_elim, arith}
use Rattle.std.specs.List.{find, slice_get}
use Rattle.std.specs.Option.{option_map}
use Rattle.std.proofs.lemmas.Bool.{cases_eq, eq-eqb, ne_eqb}
use Rattle.std.proofs.lemmas.List.{length-map, take-map, drop-map}
use Rattle.std.proofs.lemmas.Option.{slice_get-map}
use Rattle.dp_board.specs.Strokes.{is_among, last_few, last_of, without_last, without}
use Rattle.dp_board.specs.Flags.{is_group_drawn}

-- different groups keep different names
abbrev pub IsInjective : (ℕ → ℕ) → Type 0
IsInjective f = (x y : ℕ) → f x ≡ f y → x ≡ y

-- ---- the renaming that makes room for one more position at n

abbrev pub later : ℕ → ℕ → ℕ
later zero p = suc p
later (suc n) zero = zero
later (suc n) (suc p) = suc (later n p)

less : (x y : ℕ) → suc x ≡ suc y → x ≡ y
less x y e = omega arith

pub later-injective : (n : ℕ) → IsInjective (later n)
later-injective zero x y e = less x y e
later-injective (suc n) zero zero e = refl
later-injective (suc n) zero (suc y) e = cc
later-injective (suc n) (suc x) zero e = cc
later-injective (suc n) (suc x) (suc y) e = ap suc (later-injective n x y
    (less (later n x) (later n y) e))

pub later-below : (n p : ℕ) → p < n → later n p ≡ p
later-below zero p below = absurd (omega arith)
later-below (suc n) zero below = refl
later-below (suc n) (suc p) below = ap suc (later-below n p (omega arith))

pub later-above : (n p : ℕ) → n ≤ p → later n p ≡ p + 1
later-above zero p above = omega arith
later-above (suc n) zero above = absurd (omega arith)
later-above (suc n) (suc p) above = let rest : later n p
    ≡ p + 1 = later-above n p (omega arith) in omega arith

-- ---- lists under a renaming

eqb-renamed : (f : ℕ → ℕ) → IsInjective f → (x y : ℕ) → (f x == f y) ≡ (x == y)
eqb-renamed f inj x y =
    ⊎_elim (λ (same : x ≡ y). eq-eqb (f x) (f y) (ap f same) ∙ sym (eq-eqb x y same))
    (λ (other : x ≡ y → ⊥). ne_eqb (f x) (f y) (λ e. other (inj x y e)) ∙ sym (ne_eqb x y other))
    (cases_eq x y)

pub is_among-renamed : (f : ℕ → ℕ) → IsInjective f → (groups : List ℕ) (group : ℕ)
    → is_among (map f groups) (f group) ≡ is_among groups group
is_among-renamed f inj [] group = refl
is_among-renamed f inj (x ∷ groups) group =
    ap (λ b. b || is_among (map f groups) (f group)) (eqb-renamed f inj x group)
    ∙ ap (λ b. (x == group) || b) (is_among-renamed f inj groups group)

-- a choice, renamed
pub choice-renamed : (f : ℕ → ℕ) (b : Bool) (x : ℕ) (o : Option ℕ)
    → (if b then Some (f x) else option_map f o) ≡ option_map f (if b then Some x else o)
choice-renamed f true x o = refl
choice-renamed f false x o = refl

pub find-renamed : (f : ℕ → ℕ) (p q : ℕ → Bool) → ((x : ℕ) → p (f x) ≡ q x) → (groups : List ℕ)
    → find p (map f groups) ≡ option_map f (find q groups)
find-renamed f p q same [] = refl
find-renamed f p q same (x ∷ groups) =
    ap (λ b. if b then Some (f x) else find p (map f groups)) (same x)
    ∙ ap (λ o. if q x then Some (f x) else o) (find-renamed f p q same groups)
    ∙ choice-renamed f (q x) x (find q groups)

pub last_few-renamed : (f : ℕ → ℕ) (n : ℕ) (groups : List ℕ)
    → last_few n (map f groups) ≡ map f (last_few n groups)
last_few-renamed f n groups =
    ap (λ k. drop (k - n) (map f groups)) (length-map groups f)
    ∙ drop-map f (length groups - n) groups

pub last_of-renamed : (f : ℕ → ℕ) (groups : List ℕ) → last_of (map f groups)
    ≡ option_map f (last_of groups)
last_of-renamed f groups =
    ap (λ k. slice_get (map f groups) (k - 1)) (length-map groups f)
    ∙ slice_get-map f groups (length groups - 1)

pub without_last-renamed : (f : ℕ → ℕ) (groups : List ℕ)
    → without_last (map f groups) ≡ map f (without_last groups)
without_last-renamed f groups =
    ap (λ k. take (k - 1) (map f groups)) (length-map groups f)
    ∙ take-map f (length groups - 1) groups

rest-renamed : (f : ℕ → ℕ) (b : Bool) (x : ℕ) (xs ys : List ℕ)
    → (if b then map f xs else f x ∷ map f ys) ≡ map f (if b then xs else x ∷ ys)
rest-renamed f true x xs ys = refl
rest-renamed f false x xs ys = refl

pub without-renamed : (f : ℕ → ℕ) → IsInjective f → (group : ℕ) (groups : List ℕ)
    → without (f group) (map f groups) ≡ map f (without group groups)
without-renamed f inj group [] = refl
without-renamed f inj group (x ∷ groups) =
    ap (λ b. if b then map f groups else f x ∷ without (f group) (map f groups))
    (eqb-renamed f inj x group)
    ∙ ap (λ xs. if x == group then map f groups else f x ∷ xs) (without-renamed f inj group groups)
    ∙ rest-renamed f (x == group) x groups (without group groups)

pub is_group_drawn-renamed : (f : ℕ → ℕ) → IsInjective f → (done : List ℕ) (group : Option ℕ)
    → is_group_drawn (map f done) (option_map f group) ≡ is_group_drawn done group
is_group_drawn-renamed f inj done None = refl
is_group_drawn-renamed f inj done (Some group) = is_among-renamed f inj done group
