-- Who holds an id.
use Rattle.std.proofs.Common.{◌≡◌, ℕ, ◌+◌, ◌<◌, ◌≤◌, ◌==◌, Bool, true, false, ◌&&◌, ◌||◌, cond, ltb}
use Rattle.std.proofs.Common.{List, [], ◌∷◌, ◌++◌, length, get_or, set, count_by, Some, refl, sym}
use Rattle.std.proofs.Common.{ap, subst, ◌∙◌, ⊎_elim, arith, zero-add}
use Rattle.std.specs.List.{list_any, slice_get}
use Rattle.std.proofs.lemmas.Bool.{cases_eq, eq-eqb, ne_eqb, lt-ltb, ltb-false}
use Rattle.std.proofs.lemmas.List.{get_or-set_same, get_or-set_other}
use Rattle.std.proofs.lemmas.List.Sums.{sum_by_push, sum_by-set, sum_by-cons}
use Rattle.std.proofs.lemmas.Option.{slice_get_within, get_or_from_slice_get}
use Rattle.dp_epochs.specs.declared.connection.Connection.{Connection}
use Rattle.dp_epochs.specs.Connections.{is_open}
use Rattle.dp_history.specs.Users.{mark}
use Rattle.dp_commit.specs.Marks.{is_holder, MarksHolders}

any-head : (b any : Bool) (n : ℕ) → any ≡ ltb 0 n → (b || any) ≡ ltb 0 (cond b 1 0 + n)
any-head true any n h = sym (lt-ltb 0 (1 + n) (omega arith))
any-head false any n h = h ∙ ap (ltb 0) (sym (zero-add n))

-- some item passes exactly if the count isn't 0
any-count : {X : Type 0} (p : X → Bool) (xs : List X) → list_any p xs ≡ ltb 0 (count_by p xs)
any-count p [] = refl
any-count p (x ∷ xs) =
    any-head (p x) (list_any p xs) (count_by p xs) (any-count p xs)
    ∙ ap (ltb 0) (sym (sum_by-cons (λ y. cond (p y) 1 0) x xs))

-- a count of 1 or 0 says whether some item passes
pub any-marked : {X : Type 0} (p : X → Bool) (xs : List X) (b : Bool) → count_by p xs ≡ cond b 1 0
    → list_any p xs ≡ b
any-marked p xs true count = any-count p xs ∙ lt-ltb 0 (count_by p xs) (omega arith)
any-marked p xs false count = any-count p xs ∙ ap (ltb 0) count

-- none passes
none-count : {X : Type 0} (p : X → Bool) (xs : List X) → list_any p xs ≡ false → count_by p xs ≡ 0
none-count p xs none =
    let h = ltb-false 0 (count_by p xs) (sym (any-count p xs) ∙ none) in omega arith

-- the mark after another is set
pub mark-set_same : (present : List Bool) (user : ℕ) (b : Bool) → user < length present
    → mark (set present user b) user ≡ b
mark-set_same present user b within = get_or-set_same present user b false within

pub mark-set_other : (present : List Bool) (user other : ℕ) (b : Bool) → (user ≡ other → ⊥)
    → mark (set present user b) other ≡ mark present other
mark-set_other present user other b apart = get_or-set_other present user other b false
    (λ e. apart (sym e))

holder_open : (c : Connection) (user : ℕ) → is_open c ≡ true → is_holder user c ≡ (c.user == user)
holder_open c user up = ap (λ b. b && c.user == user) up

holder_shut : (c : Connection) (user : ℕ) → is_open c ≡ false → is_holder user c ≡ false
holder_shut c user shut = ap (λ b. b && c.user == user) shut

abbrev one_if : Bool → ℕ
one_if b = cond b 1 0

holder_yes : (c : Connection) (user : ℕ) → is_open c ≡ true → c.user ≡ user
    → one_if (is_holder user c) ≡ 1
holder_yes c user up same = ap one_if (holder_open c user up ∙ eq-eqb c.user user same)

neither : (b : Bool) → one_if (b && false) ≡ 0
neither true = refl
neither false = refl

holder_other : (c : Connection) (user : ℕ) → (c.user ≡ user → ⊥) → one_if (is_holder user c) ≡ 0
holder_other c user apart =
    ap (λ b. one_if (is_open c && b)) (ne_eqb c.user user apart) ∙ neither (is_open c)

-- one more connection of a user who was not present
pub marks-adds : (present : List Bool) (cs : List Connection) (c : Connection)
    → length present ≡ 256 → MarksHolders present cs
    → (is_open c ≡ true) × (list_any (is_holder c.user) cs ≡ false)
    → MarksHolders (set present c.user true) (cs ++ c ∷ [])
marks-adds present cs c ids marks h user small =
    let more = sum_by_push (λ x. one_if (is_holder user x)) cs c in
    ⊎_elim (λ (same : c.user ≡ user).
    let none : count_by (is_holder user) cs ≡ 0 =
    subst (λ u. count_by (is_holder u) cs ≡ 0) same (none-count (is_holder c.user) cs h.1) in
    let one : one_if (is_holder user c) ≡ 1 = holder_yes c user h.0 same in
    let now : mark (set present c.user true) user ≡ true =
    subst (λ u. mark (set present c.user true) u ≡ true) same
    (mark-set_same present c.user true (omega (arith, same))) in
    let set_now : one_if (mark (set present c.user true) user) ≡ 1 = ap one_if now in
    omega (arith, more, none, one, set_now))
    (λ (apart : c.user ≡ user → ⊥).
    let zero_more : one_if (is_holder user c) ≡ 0 = holder_other c user apart in
    let kept : one_if (mark (set present c.user true) user) ≡ one_if (mark present user) =
    ap one_if (mark-set_other present c.user user true apart) in
    omega (arith, more, zero_more, kept, marks user small))
    (cases_eq c.user user)

-- an open connection stays its user's, and may end
pub marks-becomes : (present : List Bool) (cs : List Connection) (i : ℕ) (old c : Connection)
    (up : Bool)
    → length present ≡ 256 → MarksHolders present cs → slice_get cs i ≡ Some old → is_open c ≡ up
    → (is_open old ≡ true) × (old.user ≡ c.user)
    → MarksHolders (cond up present (set present c.user false)) (set cs i c)
marks-becomes present cs i old c true ids marks found up h user small =
    let more = sum_by-set (λ x. one_if (is_holder user x)) cs i c old
    (slice_get_within cs i old found) in
    let at : one_if (is_holder user (get_or cs i old)) ≡ one_if (is_holder user old) =
    ap (λ x. one_if (is_holder user x)) (get_or_from_slice_get cs i old old found) in
    let same : one_if (is_holder user old) ≡ one_if (is_holder user c) =
    ap one_if (holder_open old user h.0 ∙ ap (λ u. u == user) h.1 ∙ sym (holder_open c user up)) in
    omega (arith, more, at, same, marks user small)
marks-becomes present cs i old c false ids marks found shut h user small =
    let more = sum_by-set (λ x. one_if (is_holder user x)) cs i c old
    (slice_get_within cs i old found) in
    let at : one_if (is_holder user (get_or cs i old)) ≡ one_if (is_holder user old) =
    ap (λ x. one_if (is_holder user x)) (get_or_from_slice_get cs i old old found) in
    let gone : one_if (is_holder user c) ≡ 0 = ap one_if (holder_shut c user shut) in
    ⊎_elim (λ (same : c.user ≡ user).
    let one : one_if (is_holder user old) ≡ 1 = holder_yes old user h.0 (h.1 ∙ same) in
    let now : one_if (mark (set present c.user false) user) ≡ 0 =
    ap one_if
    (subst (λ u. mark (set present c.user false) u ≡ false) same
    (mark-set_same present c.user false (omega (arith, same)))) in
    let most : one_if (mark present user) ≤ 1 = one_most (mark present user) in
    omega (arith, more, at, gone, one, now, most, marks user small))
    (λ (apart : c.user ≡ user → ⊥).
    let none : one_if (is_holder user old) ≡ 0 = holder_other old user (λ e. apart (sym h.1 ∙ e)) in
    let kept : one_if (mark (set present c.user false) user) ≡ one_if (mark present user) =
    ap one_if (mark-set_other present c.user user false apart) in
    omega (arith, more, at, gone, none, kept, marks user small))
    (cases_eq c.user user) where
      one_most : (b : Bool) → cond b 1 0 ≤ 1
      one_most true = omega arith
      one_most false = omega arith
