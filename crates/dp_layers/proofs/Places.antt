-- The place of a row, and changes there.
use Rattle.std.proofs.Common.{◌≡◌, ◌≢◌, ◌==◌, ℕ, zero, suc, Bool, true, false, not, List, []}
use Rattle.std.proofs.Common.{◌∷◌, map, length, get_or, set, Option, None, Some, refl, ap, sym, ◌∙◌}
use Rattle.std.proofs.Common.{subst, ⊎_elim, ◌+◌, ◌<◌, arith}
use Rattle.std.specs.Prelude.{is_some, position}
use Rattle.std.specs.List.{find, filter, insert, remove}
use Rattle.std.specs.Option.{option_map_or}
use Rattle.std.proofs.lemmas.Bool.Decides.{nat_tests}
use Rattle.std.proofs.lemmas.Bool.{ne_eqb, eqb-true, eqb-false, false≢true}
use Rattle.std.proofs.lemmas.List.Quantifiers.{position-Some}
use Rattle.dp_layers.proofs.Finding.{by_test}
use Rattle.dp_layers.specs.declared.row.LayerRow.{LayerRow}
use Rattle.dp_layers.specs.Layers.{has_id, row_of, has_row}
use Rattle.dp_layers.specs.Changes.{change_row, inserted_after, placed}
use Rattle.dp_layers.specs.Inside.{place_after}
use Rattle.dp_layers.proofs.Finding.{AreDistinct, AreDistinct-tail, AreDistinct-absent}
use Rattle.dp_layers.proofs.Finding.{row_of-filter}
use Rattle.dp_layers.proofs.Placing.{IsPlace}

-- ---- the place of the first item that passes a test

pub record IsFirst {A : Type 0} (test : A → Bool) (xs : List A) (place : ℕ) : Type 0 where
  pub within : place < length xs
  pub here : (d : A) → test (get_or xs place d) ≡ true
  pub before : (k : ℕ) (d : A) → k < place → test (get_or xs k d) ≡ false

module _ {A : Type 0} (test : A → Bool) where
  pub first_position : (xs : List A) (place : ℕ) → position test xs ≡ Some place
      → IsFirst test xs place
  first_position [] place is = absurd (let e : ◌≡◌ {A = Option ℕ} None (Some place) = is in cc)
  first_position (x ∷ xs) place is = record {
    within = (position-Some test (x ∷ xs) place x is).0;
    here = λ d. (position-Some test (x ∷ xs) place d is).1;
    before = λ k d. (position-Some test (x ∷ xs) place d is).2 k;
  }

  pub first_tail : (x : A) (xs : List A) (place : ℕ) → IsFirst test (x ∷ xs) (suc place)
      → IsFirst test xs place
  first_tail x xs place first = record {
    within = (let h : suc place < suc (length xs) = first.within in omega arith);
    here = first.here;
    before = λ k d less. first.before (suc k) d (omega arith);
  }

  pub missed_before : (x : A) (xs : List A) (place : ℕ) → IsFirst test (x ∷ xs) (suc place)
      → test x ≡ false
  missed_before x xs place first = first.before 0 x (omega arith)

  pub find_first : (xs : List A) (place : ℕ) (d : A) → IsFirst test xs place
      → find test xs ≡ Some (get_or xs place d)
  find_first [] place d first = absurd (let h : place < 0 = first.within in omega arith)
  find_first (x ∷ xs) zero d first = let here : test x ≡ true = first.here d in rw here refl
  find_first (x ∷ xs) (suc place) d first =
      rw (missed_before x xs place first) (find_first xs place d (first_tail x xs place first))

  pub find_none : (xs : List A) → position test xs ≡ None → find test xs ≡ None
  find_none [] is = refl
  find_none (x ∷ xs) is = grind (arith, nat_tests, find_none xs)

-- ---- the row of an id

-- no later row has the first one's id
pub absent-rest : (r : LayerRow) (rows : List LayerRow) (id : ℕ) → AreDistinct (r ∷ rows)
    → r.id ≡ id → row_of rows id ≡ None
absent-rest r rows id distinct here =
    let P : ℕ → Type 0 = λ y. row_of rows y ≡ None in
    subst P here (AreDistinct-absent r rows distinct)

absent_after : (r : LayerRow) (rows : List LayerRow) (id : ℕ) → AreDistinct (r ∷ rows)
    → (r.id == id) ≡ true → row_of rows id ≡ None
absent_after r rows id distinct here = absent-rest r rows id distinct (eqb-true r.id id here)

-- a change of the row of an absent id
map-absent : (id : ℕ) (change : LayerRow → LayerRow) (rows : List LayerRow) → row_of rows id ≡ None
    → map (change_row id change) rows ≡ rows
map-absent id change [] absent = refl
map-absent id change (r ∷ rows) absent = grind (arith, map-absent id change rows)

module _ (change : LayerRow → LayerRow) where
  map-changed : (rows : List LayerRow) (id place : ℕ) (d : LayerRow) → AreDistinct rows
      → IsFirst (has_id id) rows place
      → set rows place (change (get_or rows place d)) ≡ map (change_row id change) rows
  map-changed [] id place d distinct at = refl
  map-changed (r ∷ rows) id zero d distinct at =
      grind (arith, at.here r, map-absent id change rows, absent_after r rows id distinct)
  map-changed (r ∷ rows) id (suc place) d distinct at =
      let tail = first_tail (has_id id) r rows place at in
      let rest = map-changed rows id place d (AreDistinct-tail r rows distinct) tail in
      grind (arith, missed_before (has_id id) r rows place at, rest)

  -- the row is changed if it is found, and nothing if it isn't
  pub changed_found : (rows : List LayerRow) (id place : ℕ) (d : LayerRow) → AreDistinct rows
      → position (has_id id) rows ≡ Some place
      → set rows place (change (get_or rows place d)) ≡ map (change_row id change) rows
  changed_found rows id place d distinct found =
      map-changed rows id place d distinct (first_position (has_id id) rows place found)

  pub changed_none : (rows : List LayerRow) (id : ℕ) → position (has_id id) rows ≡ None
      → rows ≡ map (change_row id change) rows
  changed_none rows id none = sym (map-absent id change rows (find_none (has_id id) rows none))

-- ---- the row of an id taken out

taken_none : (rows : List LayerRow) (id : ℕ) → row_of rows id ≡ None → filter (has_id id) rows ≡ []
taken_none [] id absent = refl
taken_none (r ∷ rows) id absent = grind (arith, taken_none rows id)

others_all : (rows : List LayerRow) (id : ℕ) → row_of rows id ≡ None
    → filter (λ r. not (has_id id r)) rows ≡ rows
others_all [] id absent = refl
others_all (r ∷ rows) id absent = grind (arith, others_all rows id)

taken_is : (rows : List LayerRow) (id from : ℕ) (d : LayerRow) → AreDistinct rows
    → IsFirst (has_id id) rows from → filter (has_id id) rows ≡ get_or rows from d ∷ []
taken_is [] id from d distinct at = absurd (let h : from < 0 = at.within in omega arith)
taken_is (r ∷ rows) id zero d distinct at =
    grind (arith, at.here r, taken_none rows id, absent_after r rows id distinct)
taken_is (r ∷ rows) id (suc from) d distinct at =
    let tail = first_tail (has_id id) r rows from at in
    let rest = taken_is rows id from d (AreDistinct-tail r rows distinct) tail in
    grind (arith, missed_before (has_id id) r rows from at, rest)

others_are : (rows : List LayerRow) (id from : ℕ) → AreDistinct rows
    → IsFirst (has_id id) rows from → filter (λ r. not (has_id id r)) rows ≡ remove rows from
others_are [] id from distinct at = absurd (let h : from < 0 = at.within in omega arith)
others_are (r ∷ rows) id zero distinct at =
    grind (arith, at.here r, others_all rows id, absent_after r rows id distinct)
others_are (r ∷ rows) id (suc from) distinct at =
    rw (missed_before (has_id id) r rows from at)
    (ap (λ ys. r ∷ ys) (others_are rows id from (AreDistinct-tail r rows distinct)
    (first_tail (has_id id) r rows from at)))

-- a row put directly after the one at a place
after_at : (rows : List LayerRow) (x : LayerRow) (above at : ℕ)
    → IsFirst (has_id above) rows at
    → inserted_after (has_id above) (x ∷ []) rows ≡ insert rows (suc at) x
after_at [] x above at is = absurd (let h : at < 0 = is.within in omega arith)
after_at (r ∷ rows) x above zero is =
    let here : (r.id == above) ≡ true = is.here r in rw here refl
after_at (r ∷ rows) x above (suc at) is =
    rw (missed_before (has_id above) r rows at is)
    (ap (λ ys. r ∷ ys) (after_at rows x above at (first_tail (has_id above) r rows at is)))

after_found : (rows : List LayerRow) (x : LayerRow) (above : ℕ) → has_row rows above ≡ true
    → insert rows (option_map_or (λ at. at + 1) (position (has_id above) rows) 0) x
    ≡ inserted_after (has_id above) (x ∷ []) rows
after_found rows x above present = found (position (has_id above) rows) refl
  where
    found : (o : Option ℕ) → position (has_id above) rows ≡ o
        → insert rows (option_map_or (λ at. at + 1) (position (has_id above) rows) 0) x
        ≡ inserted_after (has_id above) (x ∷ []) rows
    found None none =
        absurd (false≢true (sym (ap is_some (find_none (has_id above) rows none)) ∙ present))
    found (Some at) some =
        let more : at + 1 ≡ suc at = omega arith in
        rw (some, more) (sym (after_at rows x above at (first_position (has_id above) rows at
        some)))

-- the row taken out and put in at its new place
pub put_placed : (rows : List LayerRow) (id above from : ℕ) (x : LayerRow) → AreDistinct rows
    → position (has_id id) rows ≡ Some from → x ≡ get_or rows from x → IsPlace rows id above
    → insert (remove rows from) (place_after (remove rows from) above) x ≡ placed has_id rows id
    above
put_placed rows id above from x distinct found is place =
    let at = first_position (has_id id) rows from found in
    let others : filter (λ r. not (has_id id r)) rows ≡ remove rows from = others_are rows id from
    distinct at in
    let taken : filter (has_id id) rows ≡ x ∷ [] = taken_is rows id from x distinct at
    ∙ ap (λ r. r ∷ []) (sym is) in
    by_test (above == 0)
    (λ first. rw (first, taken, others) refl)
    (λ later. let there : has_row (remove rows from) above ≡ true =
    ap (λ ls. has_row ls above) (sym others)
    ∙ ap is_some (row_of-filter (λ i. not (i == id)) above rows)
    ∙ ⊎_elim
    (λ (zero : above ≡ 0). absurd (eqb-false above 0 later zero))
    (λ (ok : (has_row rows above ≡ true) × (above ≢ id)). rw (ne_eqb above id ok.1) ok.0)
    place in
    rw (later, taken, others) (after_found (remove rows from) x above there))
