-- Marks as lists of ids.
use Rattle.std.proofs.Common.{◌≡◌, ◌≢◌, ℕ, zero, suc, ◌+◌, ◌<◌, ◌≤◌, ◌==◌, ◌||◌, Bool, true, false}
use Rattle.std.proofs.Common.{not, cond, IsTrue, List, [], ◌∷◌, length, All, refl, sym, ap, ◌∙◌}
use Rattle.std.proofs.Common.{inl, inr, arith}
use Rattle.std.specs.List.{filter, list_all, range_with_len}
use Rattle.std.proofs.lemmas.Bool.{cases_eq, eq-eqb, ne_eqb, cond-true, cond-false, not-true}
use Rattle.std.proofs.lemmas.Bool.{false≢true}
use Rattle.std.proofs.lemmas.List.Sums.{AllPass-from_list_all, list_all-from_AllPass}
use Rattle.std.proofs.lemmas.List.Elements.{All-get_or, All-from_get_or}
use Rattle.dp_acl.specs.LookBack.{numbers_below, lists}
use Rattle.dp_acl.specs.Rights.{is_open_to}
use Rattle.dp_acl.specs.Carried.{in_order}
use Rattle.dp_acl.specs.Table.{mark_of, Mark}
use Rattle.dp_acl.specs.Marks.{marked}
use Rattle.dp_acl.proofs.ListLemmas.{filter-same, All-range, filter-numbers, filter-none}
use Rattle.dp_acl.proofs.ListLemmas.{filter-numbers_nil, lists-filter}

-- ids that are listed and marked alike are the marked ones
pub marked-in_order : (marks : List Bool) (ids : List ℕ) → Mark marks (lists ids)
    → marked marks ≡ in_order ids
marked-in_order marks ids same = filter-numbers (mark_of marks) (lists ids) 256 same

-- if no mark is set, nobody is marked
none-marked : (marks : List Bool) → length marks ≡ 256 → list_all not marks ≡ true
    → marked marks ≡ []
none-marked marks long clear =
    filter-numbers (mark_of marks) (λ _. false) 256
    (λ user low. not-true (mark_of marks user)
    (All-get_or (λ mark. not mark ≡ true) marks user false (omega arith)
    (AllPass-from_list_all not marks clear)))
    ∙ filter-none (numbers_below 256)

-- if nobody is marked, no mark is set
marked-none : (marks : List Bool) → length marks ≡ 256 → marked marks ≡ []
    → list_all not marks ≡ true
marked-none marks long none =
    list_all-from_AllPass not marks
    (All-from_get_or (λ mark. not mark ≡ true) marks false
    (λ user short. ap not (filter-numbers_nil (mark_of marks) 256 user none (omega arith))))

-- the test of the marks says whether nobody is marked
pub clear-iff_none : (held marks : List Bool) (r : Bool) → length held ≡ 256 → held ≡ marks
    → r ≡ list_all not held → (IsTrue r → marked marks ≡ []) × (marked marks ≡ [] → IsTrue r)
clear-iff_none held marks r long view test = (
  λ yes. ap marked (sym view) ∙ none-marked held long (sym test ∙ yes),
  λ none. test ∙ marked-none held long (ap marked view ∙ none),
)

open-some : (ids : List ℕ) (user : ℕ) → ids ≢ [] → is_open_to ids user ≡ lists ids user
open-some [] user some = absurd (some refl)
open-some (id ∷ ids) user some = refl

-- if somebody is marked, the marked ids are open to those who are
pub open-marked : (marks : List Bool) (user : ℕ) → user < 256 → marked marks ≢ []
    → is_open_to (marked marks) user ≡ mark_of marks user
open-marked marks user low some =
    open-some (marked marks) user some ∙ lists-filter (mark_of marks) 256 user low

-- ids in order are open to the same users
pub open-in_order : (ids : List ℕ) (user : ℕ) → user < 256 → All (λ id. id < 256) ids
    → is_open_to (in_order ids) user ≡ is_open_to ids user
open-in_order [] user low bytes = ap (λ xs. is_open_to xs user) (filter-none (numbers_below 256))
open-in_order (id ∷ ids) user low bytes =
    open-some (in_order (id ∷ ids)) user some ∙ lists-filter (lists (id ∷ ids)) 256 user low
  where
    some : in_order (id ∷ ids) ≢ []
    some none =
        let absent : lists (id ∷ ids) id ≡ false =
        filter-numbers_nil (lists (id ∷ ids)) 256 id none (bytes 0 0 (omega arith)) in
        false≢true (sym absent ∙ ap (λ b. b || lists ids id) (eq-eqb id id refl))

-- ---- how many there are

-- the items that pass one of two tests are at most those that pass each
or_step : {X : Type 0} (x : X) (a b : Bool) (ors ps qs : List X)
    → length ors ≤ length ps + length qs
    → length (cond (a || b) (x ∷ ors) ors) ≤ length (cond a (x ∷ ps) ps)
    + length (cond b (x ∷ qs) qs)
or_step x true true ors ps qs few = omega arith
or_step x true false ors ps qs few = omega arith
or_step x false true ors ps qs few = omega arith
or_step x false false ors ps qs few = omega arith

length-filter_or : {X : Type 0} (p q : X → Bool) (xs : List X)
    → length (filter (λ x. p x || q x) xs) ≤ length (filter p xs) + length (filter q xs)
length-filter_or p q [] = omega arith
length-filter_or p q (x ∷ xs) =
    or_step x (p x) (q x) (filter (λ y. p y || q y) xs) (filter p xs) (filter q xs)
    (length-filter_or p q xs)

-- a number is at most once in a range
none_above : (id low n : ℕ) → id < low → filter (λ k. id == k) (range_with_len low n) ≡ []
none_above id low n below =
    filter-same (λ k. id == k) (λ _. false) (range_with_len low n)
    (All-range (λ k. (id == k) ≡ false) low n (λ k above under. ne_eqb id k (λ e. omega arith)))
    ∙ filter-none (range_with_len low n)

one_step : (id low : ℕ) (rest : List ℕ) → length rest ≤ 1 → (id ≡ low → rest ≡ [])
    → length (cond (id == low) (low ∷ rest) rest) ≤ 1
one_step id low rest few none = elim (cases_eq id low) [
  | inl same ↦ omega (
    arith,
    ap length (cond-true (id == low) (low ∷ rest) rest (eq-eqb id low same)),
    ap length (none same),
  )
  | inr differ ↦ omega (
    arith,
    ap length (cond-false (id == low) (low ∷ rest) rest
        (ne_eqb id low differ)),
  )
]

length-filter_one : (id low n : ℕ) → length (filter (λ k. id == k) (range_with_len low n)) ≤ 1
length-filter_one id low zero = omega arith
length-filter_one id low (suc n) =
    one_step id low (filter (λ k. id == k) (range_with_len (low + 1) n))
    (length-filter_one id (low + 1) n)
    (λ same. none_above id (low + 1) n (omega arith))

length-one : (id n : ℕ) → length (filter (λ k. id == k) (numbers_below n)) ≤ 1
unfolding numbers_below
length-one id n = length-filter_one id 0 n

length-listed : (ids : List ℕ) (n : ℕ) → length (filter (lists ids) (numbers_below n)) ≤ length ids
length-listed [] n = omega (arith, ap length (filter-none (numbers_below n)))
length-listed (id ∷ ids) n =
    omega (
      arith,
      length-filter_or (λ k. id == k) (lists ids) (numbers_below n),
      length-one id n,
      length-listed ids n,
    )

-- ids in order are no more than the ids
pub length-in_order : (ids : List ℕ) → length (in_order ids) ≤ length ids
length-in_order ids = length-listed ids 256
