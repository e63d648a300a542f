-- Lists in which one item passes a test: it is the one that a filter keeps, that is changed, and
-- that stands behind the one before it.
use Rattle.std.proofs.Common.{◌≡◌, ◌==◌, ℕ, Bool, true, false, not, List, [], ◌∷◌, ◌++◌}
use Rattle.std.proofs.Common.{map, refl, ap, sym, ◌∙◌, eq-eqb}
use Rattle.std.specs.Prelude.{All}
use Rattle.std.specs.List.{filter, fold, flat_map, IsDistinct}
use Rattle.std.proofs.lemmas.Bool.{ne_eqb, false≢true}
use Rattle.std.proofs.lemmas.List.Elements.{All-nil, All-cons, All-head, All-tail}
use Rattle.std.proofs.lemmas.List.Elements.{All-from_recursion}
use Rattle.std.proofs.lemmas.List.Sums.{fold-append}
use Rattle.std.proofs.lemmas.Map.Keys.{IsDistinct-head, IsDistinct-tail}
use Rattle.dp_layers.specs.Changes.{inserted_after}

module _ {R : Type 0} where
  -- no item passes the test
  abbrev pub NonePasses : (R → Bool) → List R → Type 0
  NonePasses test xs = All (λ x. test x ≡ false) xs

  pub All-middle : (P : R → Type 0) (xs : List R) (x : R) (ys : List R) → All P (xs ++ x ∷ ys)
      → P x
  All-middle P [] x ys each = All-head P x ys each
  All-middle P (y ∷ xs) x ys each =
      All-middle P xs x ys (All-tail P y (xs ++ x ∷ ys) each)

  pub All-after : (P : R → Type 0) (xs ys : List R) → All P (xs ++ ys) → All P ys
  All-after P [] ys each = each
  All-after P (x ∷ xs) ys each = All-after P xs ys (All-tail P x (xs ++ ys) each)

  pub All-before : (P : R → Type 0) (xs ys : List R) → All P (xs ++ ys) → All P xs
  All-before P [] ys each = All-nil P
  All-before P (x ∷ xs) ys each =
      All-cons P x xs (All-head P x (xs ++ ys) each)
      (All-before P xs ys (All-tail P x (xs ++ ys) each))

  filter_none : (test : R → Bool) (xs : List R) → NonePasses test xs → filter test xs ≡ []
  filter_none test [] none = refl
  filter_none test (x ∷ xs) none =
      let P : R → Type 0 = λ y. test y ≡ false in
      rw (All-head P x xs none) (filter_none test xs (All-tail P x xs none))

  filter_others : (test : R → Bool) (xs : List R) → NonePasses test xs
      → filter (λ x. not (test x)) xs ≡ xs
  filter_others test [] none = refl
  filter_others test (x ∷ xs) none =
      let P : R → Type 0 = λ y. test y ≡ false in
      rw (All-head P x xs none) (ap (λ ys. x ∷ ys) (filter_others test xs (All-tail P x xs none)))

  -- the one that passes is kept
  pub filter_one : (test : R → Bool) (xs : List R) (x : R) (ys : List R) → NonePasses test xs
      → test x ≡ true → NonePasses test ys → filter test (xs ++ x ∷ ys) ≡ x ∷ []
  filter_one test [] x ys before here after =
      rw here (ap (λ zs. x ∷ zs) (filter_none test ys after))
  filter_one test (z ∷ xs) x ys before here after =
      let P : R → Type 0 = λ y. test y ≡ false in
      rw (All-head P z xs before) (filter_one test xs x ys (All-tail P z xs before) here after)

  -- and the others are kept without it
  pub filter_rest : (test : R → Bool) (xs : List R) (x : R) (ys : List R) → NonePasses test xs
      → test x ≡ true → NonePasses test ys → filter (λ y. not (test y)) (xs ++ x ∷ ys) ≡ xs ++ ys
  filter_rest test [] x ys before here after = rw here (filter_others test ys after)
  filter_rest test (z ∷ xs) x ys before here after =
      let P : R → Type 0 = λ y. test y ≡ false in
      rw (All-head P z xs before)
      (ap (λ zs. z ∷ zs) (filter_rest test xs x ys (All-tail P z xs before) here after))

  -- what is put behind the one that passes
  pub after_one : (test : R → Bool) (taken xs : List R) (x : R) (ys : List R)
      → NonePasses test xs → test x ≡ true
      → inserted_after test taken (xs ++ x ∷ ys) ≡ xs ++ x ∷ (taken ++ ys)
  after_one test taken [] x ys before here = rw here refl
  after_one test taken (z ∷ xs) x ys before here =
      let P : R → Type 0 = λ y. test y ≡ false in
      rw (All-head P z xs before)
      (ap (λ zs. z ∷ zs) (after_one test taken xs x ys (All-tail P z xs before) here))

  map_none : (test : R → Bool) (f : R → R) → ((x : R) → test x ≡ false → f x ≡ x) → (xs : List R)
      → NonePasses test xs → map f xs ≡ xs
  map_none test f keeps [] none = refl
  map_none test f keeps (x ∷ xs) none =
      let P : R → Type 0 = λ y. test y ≡ false in
      ap (λ y. y ∷ map f xs) (keeps x (All-head P x xs none))
      ∙ ap (λ ys. x ∷ ys) (map_none test f keeps xs (All-tail P x xs none))

  -- a change of those that pass changes that one
  pub map_one : (test : R → Bool) (f : R → R) → ((x : R) → test x ≡ false → f x ≡ x)
      → (xs : List R) (x : R) (ys : List R) → NonePasses test xs → NonePasses test ys
      → map f (xs ++ x ∷ ys) ≡ xs ++ f x ∷ ys
  map_one test f keeps [] x ys before after =
      ap (λ zs. f x ∷ zs) (map_none test f keeps ys after)
  map_one test f keeps (z ∷ xs) x ys before after =
      let P : R → Type 0 = λ y. test y ≡ false in
      ap (λ y. y ∷ map f (xs ++ x ∷ ys)) (keeps z (All-head P z xs before))
      ∙ ap (λ zs. z ∷ zs) (map_one test f keeps xs x ys (All-tail P z xs before) after)

  -- ---- numbers of items that are different

  All-unmap : {A : Type 0} (P : A → Type 0) (f : R → A) (xs : List R) → All P (map f xs)
      → All (λ x. P (f x)) xs
  All-unmap P f [] each = All-nil (λ x. P (f x))
  All-unmap P f (x ∷ xs) each =
      All-cons (λ y. P (f y)) x xs (All-head P (f x) (map f xs) each)
      (All-unmap P f xs (All-tail P (f x) (map f xs) each))

  module _ (number : R → ℕ) where
    abbrev pub AreDistinct : List R → Type 0
    AreDistinct xs = IsDistinct ◌==◌ (map number xs)

    head_away : (x : R) (xs : List R) → AreDistinct (x ∷ xs)
        → All (λ y. (number x == number y) ≡ false) xs
    head_away x xs distinct =
        let P : ℕ → Type 0 = λ n. (number x == n) ≡ false in
        All-unmap P number xs (All-from_recursion P (map number xs)
        (IsDistinct-head ◌==◌ (number x) (map number xs) distinct))

    tail_distinct : (x : R) (xs : List R) → AreDistinct (x ∷ xs) → AreDistinct xs
    tail_distinct x xs distinct = IsDistinct-tail ◌==◌ (number x) (map number xs) distinct

    turned : (m n : ℕ) → (m == n) ≡ false → (n == m) ≡ false
    turned m n away = ne_eqb n m (λ e. false≢true (sym away ∙ eq-eqb m n (sym e)))

    -- the number of an item is none of those before it
    pub before_away : (xs : List R) (x : R) (ys : List R) → AreDistinct (xs ++ x ∷ ys)
        → NonePasses (λ y. number y == number x) xs
    before_away [] x ys distinct = All-nil (λ y. (number y == number x) ≡ false)
    before_away (z ∷ xs) x ys distinct =
        All-cons (λ y. (number y == number x) ≡ false) z xs
        (All-middle (λ y. (number z == number y) ≡ false) xs x ys
        (head_away z (xs ++ x ∷ ys) distinct))
        (before_away xs x ys (tail_distinct z (xs ++ x ∷ ys) distinct))

    -- nor of those after it
    pub after_away : (xs : List R) (x : R) (ys : List R) → AreDistinct (xs ++ x ∷ ys)
        → NonePasses (λ y. number y == number x) ys
    after_away [] x ys distinct = λ k d in_list.
        turned (number x) _ (head_away x ys distinct k d in_list)
    after_away (z ∷ xs) x ys distinct =
        after_away xs x ys (tail_distinct z (xs ++ x ∷ ys) distinct)

-- ---- folds

pub fold-flat_map : {S A B : Type 0} (f : S → B → S) (g : A → List B) (s : S) (xs : List A)
    → fold f s (flat_map g xs) ≡ fold (λ t x. fold f t (g x)) s xs
fold-flat_map f g s [] = refl
fold-flat_map f g s (x ∷ xs) =
    fold-append f s (g x) (flat_map g xs) ∙ fold-flat_map f g (fold f s (g x)) xs
