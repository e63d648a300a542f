-- Rows that are taken out and put in at another place.
use Rattle.std.proofs.Common.{◌≡◌, ◌≢◌, ◌==◌, ◌⊎◌, ℕ, Bool, true, not, cond, List, [], ◌∷◌, ◌++◌}
use Rattle.std.proofs.Common.{map, length, None, refl, ap, sym, ◌∙◌, ◌+◌, ◌≤◌, arith}
use Rattle.std.specs.Prelude.{is_some, All}
use Rattle.std.specs.List.{find, filter, list_any}
use Rattle.std.specs.Option.{option_or}
use Rattle.std.proofs.lemmas.Bool.{ne_eqb, cond_both, false≢true}
use Rattle.std.proofs.lemmas.List.Folds.{find-append}
use Rattle.std.proofs.lemmas.List.{map-append, length-append}
use Rattle.std.proofs.lemmas.List.Elements.{All-cons, All-head, All-tail, All-append, All-filter}
use Rattle.std.proofs.lemmas.List.Filters.{length-filter_both}
use Rattle.dp_layers.proofs.Finding.{by_test}
use Rattle.dp_layers.specs.declared.row.LayerRow.{LayerRow}
use Rattle.dp_layers.specs.Layers.{has_id, row_of, has_row}
use Rattle.dp_layers.specs.Changes.{inserted_after, placed}
use Rattle.dp_layers.proofs.Finding.{cond-ap, row_of-filter, AreDistinct, AreDistinct-cons}
use Rattle.dp_layers.proofs.Finding.{AreDistinct-tail, AreDistinct-absent, AreDistinct-append}
use Rattle.dp_layers.proofs.Finding.{AreDistinct-filter, AreApart, absent-append, apart-absent}
use Rattle.dp_layers.proofs.Finding.{apart-tail}

-- ---- through a map that the tests don't see

pub filter-map : {R S : Type 0} (f : R → S) (p : S → Bool) (rows : List R)
    → filter p (map f rows) ≡ map f (filter (λ r. p (f r)) rows)
filter-map f p [] = refl
filter-map f p (r ∷ rows) = grind (arith, filter-map f p rows)

pub inserted_after-map : {R S : Type 0} (f : R → S) (p : S → Bool) (taken rows : List R)
    → inserted_after p (map f taken) (map f rows) ≡ map f (inserted_after (λ r. p (f r)) taken rows)
inserted_after-map f p taken [] = refl
inserted_after-map f p taken (r ∷ rows) =
    grind (arith, inserted_after-map f p taken rows, map-append)

pub placed-map : {R S : Type 0} (f : R → S) (has : ℕ → S → Bool) (rows : List R) (id above : ℕ)
    → placed has (map f rows) id above ≡ map f (placed (λ i r. has i (f r)) rows id above)
placed-map f has rows id above =
    let taken = filter (λ r. has id (f r)) rows in
    let others = filter (λ r. not (has id (f r))) rows in
    ap (λ t. cond (above == 0) (t ++ filter (λ s. not (has id s)) (map f rows))
    (inserted_after (has above) t (filter (λ s. not (has id s)) (map f rows))))
    (filter-map f (has id) rows)
    ∙ ap (λ o. cond (above == 0) (map f taken ++ o) (inserted_after (has above) (map f taken) o))
    (filter-map f (λ s. not (has id s)) rows)
    ∙ ap (λ b. cond (above == 0) (map f taken ++ map f others) b)
    (inserted_after-map f (has above) taken others)
    ∙ ap (λ b. cond (above == 0) b (map f (inserted_after (λ r. has above (f r)) taken others)))
    (sym (map-append f taken others))
    ∙ sym (cond-ap (map f) (above == 0) (taken ++ others)
    (inserted_after (λ r. has above (f r)) taken others))

-- ---- lookups and distinct ids

pub list_any-find : {R : Type 0} (p : R → Bool) (rows : List R)
    → list_any p rows ≡ is_some (find p rows)
list_any-find p [] = refl
list_any-find p (r ∷ rows) = grind (arith, list_any-find p rows)

row_of-inserted_after : (p : LayerRow → Bool) (x : ℕ) (taken rows : List LayerRow)
    → list_any p rows ≡ true
    → AreApart taken rows → row_of (inserted_after p taken rows) x ≡ option_or (row_of taken x)
    (row_of rows x)
row_of-inserted_after p x taken [] some apart = absurd (false≢true some)
row_of-inserted_after p x taken (r ∷ rows) some apart =
    let tail = apart-tail taken r rows apart in
    grind (
      arith,
      row_of-inserted_after p x taken rows,
      tail,
      apart-absent taken r rows apart,
      find-append,
    )

absent-inserted_after : (p : LayerRow → Bool) (x : ℕ) (taken rows : List LayerRow)
    → row_of taken x ≡ None
    → row_of rows x ≡ None → row_of (inserted_after p taken rows) x ≡ None
absent-inserted_after p x taken [] left right = refl
absent-inserted_after p x taken (r ∷ rows) left right =
    grind (arith, absent-inserted_after p x taken rows, absent-append)

AreDistinct-inserted_after : (p : LayerRow → Bool) (taken rows : List LayerRow) → AreDistinct taken
    → AreDistinct rows → AreApart taken rows → AreDistinct (inserted_after p taken rows)
AreDistinct-inserted_after p taken [] left right apart = right
AreDistinct-inserted_after p taken (r ∷ rows) left right apart =
    let absent = AreDistinct-absent r rows right in
    let above = apart-absent taken r rows apart in
    let tail = AreDistinct-tail r rows right in
    let away = apart-tail taken r rows apart in
    let rest = AreDistinct-inserted_after p taken rows left tail away in
    grind (arith, AreDistinct-cons, absent-append, absent-inserted_after, AreDistinct-append)

-- the row of the id, and the others
abbrev pub taken_of : List LayerRow → ℕ → List LayerRow
taken_of rows id = filter (has_id id) rows

abbrev pub others_of : List LayerRow → ℕ → List LayerRow
others_of rows id = filter (λ row. not (has_id id row)) rows

row_of-taken : (rows : List LayerRow) (id x : ℕ)
    → row_of (taken_of rows id) x ≡ cond (x == id) (row_of rows x) None
row_of-taken rows id x = row_of-filter (λ i. i == id) x rows

row_of-others : (rows : List LayerRow) (id x : ℕ)
    → row_of (others_of rows id) x ≡ cond (not (x == id)) (row_of rows x) None
row_of-others rows id x = row_of-filter (λ i. not (i == id)) x rows

taken-apart : (rows : List LayerRow) (id : ℕ) → AreApart (taken_of rows id) (others_of rows id)
taken-apart rows id x = grind (arith, row_of-others rows id x, row_of-taken rows id x)

others-apart : (rows : List LayerRow) (id : ℕ) → AreApart (others_of rows id) (taken_of rows id)
others-apart rows id x = grind (arith, row_of-others rows id x, row_of-taken rows id x)

both_parts : (rows : List LayerRow) (id x : ℕ)
    → option_or (row_of (taken_of rows id) x) (row_of (others_of rows id) x) ≡ row_of rows x
both_parts rows id x = grind (arith, row_of-taken rows id x, row_of-others rows id x)

-- it is first, or a row that is there and isn't the moved one
abbrev pub IsPlace : List LayerRow → ℕ → ℕ → Type 0
IsPlace rows id above = (above ≡ 0) ⊎ ((has_row rows above ≡ true) × (above ≢ id))

above_is_other : (rows : List LayerRow) (id above : ℕ) → has_row rows above ≡ true → above ≢ id
    → list_any (has_id above) (others_of rows id) ≡ true
above_is_other rows id above present ne =
    list_any-find (has_id above) (others_of rows id)
    ∙ ap is_some (row_of-others rows id above ∙ rw (ne_eqb above id ne) refl)
    ∙ present

-- each row is found as before
pub row_of-placed : (rows : List LayerRow) (id above : ℕ) → IsPlace rows id above → (x : ℕ)
    → row_of (placed has_id rows id above) x ≡ row_of rows x
row_of-placed rows id above place x =
    let both = both_parts rows id x in
    let other = above_is_other rows id above in
    grind (arith, find-append, both, other, row_of-inserted_after, taken-apart rows id)

pub AreDistinct-placed : (rows : List LayerRow) (id above : ℕ) → AreDistinct rows
    → AreDistinct (placed has_id rows id above)
AreDistinct-placed rows id above distinct =
    let left = AreDistinct-filter (has_id id) rows distinct in
    let right = AreDistinct-filter (λ row. not (has_id id row)) rows distinct in
    let others = others-apart rows id in
    grind (arith, AreDistinct-append, AreDistinct-inserted_after, others, taken-apart rows id)

-- ---- each row, and how many there are

All-inserted_after : {R : Type 0} (P : R → Type 0) (p : R → Bool) (taken rows : List R)
    → All P taken
    → All P rows → All P (inserted_after p taken rows)
All-inserted_after P p taken [] left right = right
All-inserted_after P p taken (r ∷ rows) left right =
    let head : P r = All-head P r rows right in
    let tail : All P rows = All-tail P r rows right in
    by_test (p r)
    (λ yes. rw yes
    (All-cons P r (taken ++ rows) head (All-append P taken rows left tail)))
    (λ no. rw no
    (All-cons P r (inserted_after p taken rows) head (All-inserted_after P p taken rows left tail)))

pub All-placed : {R : Type 0} (P : R → Type 0) (has : ℕ → R → Bool) (rows : List R) (id above : ℕ)
    → All P rows → All P (placed has rows id above)
All-placed P has rows id above each =
    let left = All-filter (has id) P rows each in
    let right = All-filter (λ r. not (has id r)) P rows each in
    cond_both (above == 0) (filter (has id) rows ++ filter (λ r. not (has id r)) rows)
    (inserted_after (has above) (filter (has id) rows) (filter (λ r. not (has id r)) rows)) (All P)
    (λ _. All-append P (filter (has id) rows) (filter (λ r. not (has id r)) rows) left right)
    (λ _. All-inserted_after P (has above) (filter (has id) rows)
    (filter (λ r. not (has id r)) rows) left
    right)

length-inserted_after : {R : Type 0} (p : R → Bool) (taken rows : List R)
    → length (inserted_after p taken rows) ≤ length taken + length rows
length-inserted_after p taken [] = omega arith
length-inserted_after p taken (r ∷ rows) =
    grind (arith, length-inserted_after p taken rows, length-append)

pub length-placed : {R : Type 0} (has : ℕ → R → Bool) (rows : List R) (id above : ℕ)
    → length (placed has rows id above) ≤ length rows
length-placed has rows id above =
    let both = length-filter_both (has id) (λ r. not (has id r)) (λ _. refl) rows in
    grind (arith, both, length-append, length-inserted_after)
