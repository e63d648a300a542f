-- Which row has an id, after rows are changed, left out or added.
use Rattle.std.proofs.Common.{arith, ◌≡◌, ◌≢◌, ◌==◌, ◌⊎◌, ℕ, Bool, true, false, cond, List, [], ◌∷◌}
use Rattle.std.proofs.Common.{◌++◌, map, Option, None, Some, refl, ◌∙◌, ⊎_elim, eq-eqb}
use Rattle.std.specs.List.{find, filter, AllByRecursion, IsDistinct}
use Rattle.std.specs.Option.{option_map}
use Rattle.std.proofs.lemmas.Bool.{ne_eqb, cases_Bool}
use Rattle.std.proofs.lemmas.List.Folds.{find-append}
use Rattle.dp_layers.specs.declared.row.LayerRow.{LayerRow}
use Rattle.dp_layers.specs.Layers.{has_id, row_of}

-- the ids of the rows, in order
abbrev pub ids_of : List LayerRow → List ℕ
ids_of rows = map (λ row. row.id) rows

-- no two rows have one id
abbrev pub AreDistinct : List LayerRow → Type 0
AreDistinct rows = IsDistinct ◌==◌ (ids_of rows)

-- a proof for each answer of a test
pub by_test : {P : Type 0} (b : Bool) → (b ≡ true → P) → (b ≡ false → P) → P
by_test b holds fails = ⊎_elim holds fails (cases_Bool b)

pub cond-ap : {A B : Type 0} (f : A → B) (b : Bool) (x y : A) → f (cond b x y) ≡ cond b (f x) (f y)
cond-ap f true x y = refl
cond-ap f false x y = refl

-- ---- a row of each list

-- with the same change of each row, which keeps its id
pub row_of-map : (f : LayerRow → LayerRow) → ((row : LayerRow) → (f row).id ≡ row.id)
    → (x : ℕ) (rows : List LayerRow) → row_of (map f rows) x ≡ option_map f (row_of rows x)
row_of-map f keeps x [] = refl
row_of-map f keeps x (r ∷ rows) = grind (arith, row_of-map f keeps x rows, keeps r)

-- with the items alone whose ids pass a test
pub found_kept : {R : Type 0} (keep : ℕ → Bool) (id : R → ℕ) (x : ℕ) (rows : List R)
    → find (λ r. id r == x) (filter (λ r. keep (id r)) rows)
    ≡ cond (keep x) (find (λ r. id r == x) rows) None
found_kept {R} keep id x [] = cond-ap (λ (o : Option R). None) (keep x) None None
found_kept keep id x (r ∷ rows) = grind (arith, found_kept keep id x rows)

pub row_of-filter : (keep : ℕ → Bool) (x : ℕ) (rows : List LayerRow)
    → row_of (filter (λ row. keep row.id) rows) x ≡ cond (keep x) (row_of rows x) None
row_of-filter keep x rows = found_kept keep (λ row. row.id) x rows

-- ---- rows that are absent

pub absent_from_ids : (x : ℕ) (rows : List LayerRow)
    → AllByRecursion (λ y. (x == y) ≡ false) (ids_of rows) → row_of rows x ≡ None
absent_from_ids x [] h = refl
absent_from_ids x (r ∷ rows) h = grind (arith, absent_from_ids x rows h.1)

pub ids_from_absent : (x : ℕ) (rows : List LayerRow) → row_of rows x ≡ None
    → AllByRecursion (λ y. (x == y) ≡ false) (ids_of rows)
ids_from_absent x [] h = tt
ids_from_absent x (r ∷ rows) h = grind (arith, ids_from_absent x rows)

pub absent-filter : (keep : LayerRow → Bool) (x : ℕ) (rows : List LayerRow) → row_of rows x ≡ None
    → row_of (filter keep rows) x ≡ None
absent-filter keep x [] h = refl
absent-filter keep x (r ∷ rows) h = grind (arith, absent-filter keep x rows)

-- a row is found at its own id, or one before it is
pub found_first : (r : LayerRow) (rows : List LayerRow) → row_of (r ∷ rows) r.id ≡ Some r
found_first r rows = rw (eq-eqb r.id r.id refl) refl

pub missed_first : (r : LayerRow) (rows : List LayerRow) (x : ℕ) → r.id ≢ x
    → row_of (r ∷ rows) x ≡ row_of rows x
missed_first r rows x ne = rw (ne_eqb r.id x ne) refl

-- one more row at the end
pub row_of-push : (rows : List LayerRow) (r : LayerRow) (x : ℕ) → row_of rows r.id ≡ None
    → row_of (rows ++ r ∷ []) x ≡ cond (r.id == x) (Some r) (row_of rows x)
row_of-push rows r x absent = grind (arith, find-append)

-- ---- distinct rows

pub AreDistinct-cons : (r : LayerRow) (rows : List LayerRow) → row_of rows r.id ≡ None
    → AreDistinct rows → AreDistinct (r ∷ rows)
unfolding IsDistinct
AreDistinct-cons r rows absent distinct = (ids_from_absent r.id rows absent, distinct)

pub AreDistinct-absent : (r : LayerRow) (rows : List LayerRow) → AreDistinct (r ∷ rows)
    → row_of rows r.id ≡ None
unfolding IsDistinct
AreDistinct-absent r rows distinct = absent_from_ids r.id rows distinct.0

pub AreDistinct-tail : (r : LayerRow) (rows : List LayerRow) → AreDistinct (r ∷ rows)
    → AreDistinct rows
unfolding IsDistinct
AreDistinct-tail r rows distinct = distinct.1

pub AreDistinct-none : AreDistinct []
unfolding IsDistinct
AreDistinct-none = tt

pub AreDistinct-filter : (keep : LayerRow → Bool) (rows : List LayerRow) → AreDistinct rows
    → AreDistinct (filter keep rows)
AreDistinct-filter keep [] distinct = distinct
AreDistinct-filter keep (r ∷ rows) distinct =
    let rest = AreDistinct-filter keep rows (AreDistinct-tail r rows distinct) in
    grind (arith, rest, AreDistinct-cons, absent-filter, AreDistinct-absent r rows distinct)

-- no id is in both
abbrev pub AreApart : List LayerRow → List LayerRow → Type 0
AreApart xs ys = (x : ℕ) → (row_of xs x ≡ None) ⊎ (row_of ys x ≡ None)

pub absent-append : (x : ℕ) (xs ys : List LayerRow) → row_of xs x ≡ None → row_of ys x ≡ None
    → row_of (xs ++ ys) x ≡ None
absent-append x xs ys left right = find-append (has_id x) xs ys ∙ rw (left, right) refl

-- rows that are apart from a list with r are apart from r and from the rest
pub apart-absent : (xs : List LayerRow) (r : LayerRow) (rows : List LayerRow)
    → AreApart xs (r ∷ rows) → row_of xs r.id ≡ None
apart-absent xs r rows apart = grind (arith, apart r.id, found_first r rows)

pub apart-tail : (xs : List LayerRow) (r : LayerRow) (rows : List LayerRow) → AreApart xs (r ∷ rows)
    → AreApart xs rows
apart-tail xs r rows apart x = grind (arith, apart x)

pub AreDistinct-append : (xs ys : List LayerRow) → AreDistinct xs → AreDistinct ys → AreApart ys xs
    → AreDistinct (xs ++ ys)
AreDistinct-append [] ys left right apart = right
AreDistinct-append (r ∷ xs) ys left right apart =
    let tail = apart-tail ys r xs apart in
    let rest = AreDistinct-append xs ys (AreDistinct-tail r xs left) right tail in
    let absent = AreDistinct-absent r xs left in
    grind (arith, rest, AreDistinct-cons, absent-append, absent, apart-absent ys r xs apart)
