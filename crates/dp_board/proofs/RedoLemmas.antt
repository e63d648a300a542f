-- The first group that passes a test.
use Rattle.std.proofs.Common.{◌≡◌, ◌≢◌, ℕ, ◌<◌, ◌≤◌, Bool, true, false, cond, List, [], ◌∷◌, ◌++◌}
use Rattle.std.proofs.Common.{length, get_or, Some, None, refl, ap, sym, ◌∙◌, arith, suc, zero}
use Rattle.std.proofs.Common.{eq-eqb}
use Rattle.std.specs.List.{find, position, position_or_len, remove}
use Rattle.std.specs.Prelude.{nat_lt}
use borrow.Author.Tests.{ltb-false}
use Rattle.std.proofs.lemmas.List.Folds.{find_at}
use Rattle.std.proofs.lemmas.List.Quantifiers.{position-Some}
use Rattle.std.proofs.lemmas.Option.{slice_get_past}
use Rattle.std.proofs.lemmas.Bool.{ne_eqb}
use Rattle.std.proofs.lemmas.List.{get_or_default}
use Rattle.dp_board.specs.Strokes.{Groups, without, redo}

-- two groups of which one alone passes a test differ
differ : (test : ℕ → Bool) (x y : ℕ) → test x ≡ false → test y ≡ true → x ≢ y
differ test x y fails passes same = let e : true ≡ false = sym passes ∙ ap test (sym same)
    ∙ fails in cc

-- the first that passes is found
find-first : (test : ℕ → Bool) (xs : List ℕ) (i : ℕ) → i < length xs → test (get_or xs i 0) ≡ true
    → ((k : ℕ) → k < i → test (get_or xs k 0) ≡ false) → find test xs ≡ Some (get_or xs i 0)
find-first test [] i inside passes first = absurd (omega arith)
find-first test (x ∷ xs) zero inside passes first = rw passes refl
find-first test (x ∷ xs) (suc i) inside passes first =
    rw (first 0 (omega arith)) (find-first test xs i (omega arith) passes
    (λ k lt. first (suc k) (omega arith)))

-- the first that passes is the first of its name
without-first : (test : ℕ → Bool) (xs : List ℕ) (i : ℕ) → i < length xs
    → test (get_or xs i 0) ≡ true → ((k : ℕ) → k < i → test (get_or xs k 0) ≡ false)
    → without (get_or xs i 0) xs ≡ remove xs i
without-first test [] i inside passes first = absurd (omega arith)
without-first test (x ∷ xs) zero inside passes first = rw (eq-eqb x x refl) refl
without-first test (x ∷ xs) (suc i) inside passes first =
    rw (ne_eqb x (get_or xs i 0) (differ test x (get_or xs i 0) (first 0 (omega arith)) passes))
    (ap (λ ys. x ∷ ys) (without-first test xs i (omega arith) passes
    (λ k lt. first (suc k) (omega arith))))

-- the group at the first place that passes comes back
pub redo-Some : (test : ℕ → Bool) (g : Groups) (place group : ℕ) (done undone : List ℕ)
    → position test g.undone ≡ Some place → group ≡ get_or g.undone place group
    → done ≡ g.done ++ group ∷ [] → undone ≡ remove g.undone place
    → record { done = done; undone = undone } ≡ redo (find test g.undone) g
redo-Some test g place group done undone is here pushed removed =
    let at = position-Some test g.undone place 0 is in
    let same : group ≡ get_or g.undone place 0 = here ∙ get_or_default g.undone place group 0 at.0
    in
    ap (λ xs. record g { done = xs; undone = undone }) (pushed ∙ ap (λ x. g.done ++ x ∷ []) same)
    ∙ ap (λ xs. record g { done = g.done ++ get_or g.undone place 0 ∷ []; undone = xs })
    (removed ∙ sym (without-first test g.undone place at.0 at.1 at.2))
    ∙ sym (ap (λ found. redo found g) (find-first test g.undone place at.0 at.1 at.2))

-- no place is no index below the length
no_place : (b : Bool) (i : ℕ) → cond b (Some i) None ≡ None → b ≡ false
no_place true i none = cc
no_place false i none = refl

-- if none passes there is no place
past : (test : ℕ → Bool) (xs : List ℕ) → position test xs ≡ None
    → length xs ≤ position_or_len test xs
past test xs none =
    let beyond = no_place (nat_lt (position_or_len test xs) (length xs)) (position_or_len test xs)
    none in omega (arith, ltb-false)

-- if none passes nothing comes back
pub redo-None : (test : ℕ → Bool) (g : Groups) → position test g.undone ≡ None
    → g ≡ redo (find test g.undone) g
redo-None test g none =
    sym (ap (λ group. redo group g) (find_at test g.undone
    ∙ slice_get_past g.undone (position_or_len test g.undone) (past test g.undone none)))
