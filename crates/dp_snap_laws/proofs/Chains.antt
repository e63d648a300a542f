-- Rows of which the first stand in their places and the others at the root: going up in them passes
-- parents of the whole tree alone, until it is at the root.
use Rattle.std.proofs.Common.{◌≡◌, ◌≢◌, ◌==◌, ℕ, zero, suc, Bool, true, false, ◌&&◌, ◌||◌}
use Rattle.std.proofs.Common.{List, [], ◌∷◌, ◌++◌, map, refl, ap, sym, ◌∙◌, subst, ◌⊎◌, inl, inr}
use Rattle.std.proofs.Common.{⊎_elim, eq-eqb, get_or}
use Rattle.std.specs.Prelude.{All, Option, Some, is_some}
use Rattle.std.specs.Option.{option_map_or}
use Rattle.std.specs.List.{list_all}
use Rattle.std.proofs.lemmas.Bool.{cases_Bool, eqb-true, ne_eqb, false≢true, or_cases, or_left}
use Rattle.std.proofs.lemmas.Bool.{or_right, or_from, cases_eq, false_from_ne_true}
use Rattle.std.proofs.lemmas.List.Elements.{All-head, All-tail, All-map, All-append}
use Rattle.std.proofs.lemmas.List.Folds.{list_all-append, list_all-map}
use Rattle.std.proofs.lemmas.List.Sums.{list_all-from_AllPass}
use Rattle.dp_layers.specs.declared.row.LayerRow.{LayerRow}
use Rattle.dp_layers.specs.Layers.{nesting_limit, has_id, has_row, row_of, is_group_row}
use Rattle.dp_layers.specs.Layers.{is_root_or_group}
use Rattle.dp_layers.specs.Layers.{parent_of, is_within, is_below, is_in, are_within}
use Rattle.dp_layers.specs.Changes.{new_row}
use Rattle.dp_layers.specs.Tree.{IsLayerTree}
use Rattle.dp_layers.proofs.Going.{is_within-root, is_within-step, is_within-none}
use Rattle.dp_layers.proofs.Going.{is_below-step, is_below-none, is_below-root, no_loop}
use Rattle.dp_snap_laws.proofs.Lists.{NonePasses, All-middle, All-before, All-after}
use Rattle.dp_snap_laws.proofs.Lists.{before_away, after_away}

-- the row as it is created: in its place, and at the root
abbrev pub in_place : LayerRow → LayerRow
in_place row = new_row row.id row.parent row.group row.title

abbrev pub at_root : LayerRow → LayerRow
at_root row = new_row row.id 0 row.group row.title

-- the first rows in their places, the others at the root
abbrev pub half : List LayerRow → List LayerRow → List LayerRow
half prefix rest = map in_place prefix ++ map at_root rest

-- ---- what is found by an id

root_parent : (rest : List LayerRow) (id : ℕ) → parent_of (map at_root rest) id ≡ 0
root_parent [] id = refl
root_parent (row ∷ rest) id =
    ⊎_elim (λ (here : (row.id == id) ≡ true). rw here refl)
    (λ (missed : (row.id == id) ≡ false). rw missed (root_parent rest id))
    (cases_Bool (row.id == id))

-- a row's parent there is its parent in the whole, or the root
pub half_parent : (prefix rest : List LayerRow) (id : ℕ)
    → (parent_of (half prefix rest) id ≡ parent_of (prefix ++ rest) id)
    ⊎ (parent_of (half prefix rest) id ≡ 0)
half_parent [] rest id = inr (root_parent rest id)
half_parent (row ∷ prefix) rest id =
    ⊎_elim (λ (here : (row.id == id) ≡ true). inl (rw here refl))
    (λ (missed : (row.id == id) ≡ false). rw missed (half_parent prefix rest id))
    (cases_Bool (row.id == id))

-- what is read of the row of an id, if a row says the same in its place and at the root
module _ {X : Type 0} (read : Option LayerRow → X)
    (placed : (row : LayerRow) → read (Some (in_place row)) ≡ read (Some row))
    (rooted : (row : LayerRow) → read (Some (at_root row)) ≡ read (Some row)) where
  root_read : (rest : List LayerRow) (id : ℕ)
      → read (row_of (map at_root rest) id) ≡ read (row_of rest id)
  root_read [] id = refl
  root_read (row ∷ rest) id =
      ⊎_elim (λ (here : (row.id == id) ≡ true). rw here (rooted row))
      (λ (missed : (row.id == id) ≡ false). rw missed (root_read rest id))
      (cases_Bool (row.id == id))

  half_read : (prefix rest : List LayerRow) (id : ℕ)
      → read (row_of (half prefix rest) id) ≡ read (row_of (prefix ++ rest) id)
  half_read [] rest id = root_read rest id
  half_read (row ∷ prefix) rest id =
      ⊎_elim (λ (here : (row.id == id) ≡ true). rw here (placed row))
      (λ (missed : (row.id == id) ≡ false). rw missed (half_read prefix rest id))
      (cases_Bool (row.id == id))

pub half_has : (prefix rest : List LayerRow) (id : ℕ)
    → has_row (half prefix rest) id ≡ has_row (prefix ++ rest) id
half_has prefix rest id = half_read (λ o. is_some o) (λ row. refl) (λ row. refl) prefix rest id

half_group : (prefix rest : List LayerRow) (id : ℕ)
    → is_group_row (half prefix rest) id ≡ is_group_row (prefix ++ rest) id
half_group prefix rest id =
    half_read (λ o. option_map_or (λ row. row.group) o false) (λ row. refl) (λ row. refl) prefix
    rest
    id

pub half_root_or_group : (prefix rest : List LayerRow) (id : ℕ)
    → is_root_or_group (half prefix rest) id ≡ is_root_or_group (prefix ++ rest) id
half_root_or_group prefix rest id = ap (λ b. id == 0 || b) (half_group prefix rest id)

-- a row of the list is present
pub has_middle : (prefix : List LayerRow) (row : LayerRow) (rest : List LayerRow)
    → has_row (prefix ++ row ∷ rest) row.id ≡ true
has_middle [] row rest = rw (eq-eqb row.id row.id refl) refl
has_middle (r ∷ prefix) row rest =
    ⊎_elim (λ (here : (r.id == row.id) ≡ true). rw here refl)
    (λ (missed : (r.id == row.id) ≡ false). rw missed (has_middle prefix row rest))
    (cases_Bool (r.id == row.id))

-- if no row has an id, the root is above it
pub parent-none : (rows : List LayerRow) → All (λ row. row.id ≢ 0) rows → parent_of rows 0 ≡ 0
parent-none [] each = refl
parent-none (row ∷ rows) each =
    let P : LayerRow → Type 0 = λ r. r.id ≢ 0 in
    let here : (row.id == 0) ≡ false = ne_eqb row.id 0 (All-head P row rows each) in
    rw here (parent-none rows (All-tail P row rows each))

-- ---- going up

-- going up in `now` passes parents of `rows` alone, until it is at the root
module _ (rows now : List LayerRow)
    (either : (id : ℕ) → (parent_of now id ≡ parent_of rows id) ⊎ (parent_of now id ≡ 0)) where
  pub within_stays : (n id : ℕ) → is_within n rows id ≡ true → is_within n now id ≡ true
  within_stays zero id within = is_within-none now id ∙ sym (is_within-none rows id) ∙ within
  within_stays (suc n) id within =
      ⊎_elim
      (λ (root : id ≡ 0). subst (λ i. is_within (suc n) now i ≡ true) (sym root)
      (is_within-root (suc n) now))
      (λ (deeper : id ≢ 0).
      is_within-step n now id deeper
      ∙ ⊎_elim
      (λ (same : parent_of now id ≡ parent_of rows id).
      ap (is_within n now) same
      ∙ within_stays n (parent_of rows id) (sym (is_within-step n rows id deeper) ∙ within))
      (λ (up : parent_of now id ≡ 0). ap (is_within n now) up ∙ is_within-root n now)
      (either id))
      (cases_eq id 0)

  below_was : (root : parent_of now 0 ≡ 0) (other : ℕ) → other ≢ 0 → (n id : ℕ)
      → is_below n now id other ≡ true → is_below n rows id other ≡ true
  below_was root other some zero id below =
      absurd (false≢true (sym (is_below-none now id other) ∙ below))
  below_was root other some (suc n) id below =
      is_below-step n rows id other
      ∙ ⊎_elim
      (λ (same : parent_of now id ≡ parent_of rows id).
      ⊎_elim
      (λ (here : (parent_of now id == other) ≡ true).
      or_left (parent_of rows id == other) _ (ap (λ p. p == other) (sym same) ∙ here))
      (λ (above : is_below n now (parent_of now id) other ≡ true).
      or_right (parent_of rows id == other) _
      (below_was root other some n (parent_of rows id)
      (ap (λ p. is_below n now p other) (sym same) ∙ above)))
      (or_cases (parent_of now id == other) (is_below n now (parent_of now id) other)
      (sym (is_below-step n now id other) ∙ below)))
      (λ (up : parent_of now id ≡ 0).
      ⊎_elim
      (λ (here : (parent_of now id == other) ≡ true).
      absurd (some (sym (sym up ∙ eqb-true (parent_of now id) other here))))
      (λ (above : is_below n now (parent_of now id) other ≡ true).
      absurd (false≢true (sym (is_below-root n now other root some)
      ∙ ap (λ p. is_below n now p other) (sym up) ∙ above)))
      (or_cases (parent_of now id == other) (is_below n now (parent_of now id) other)
      (sym (is_below-step n now id other) ∙ below)))
      (either id)

  -- a row's parent is neither the row nor below it
  pub parent_apart : parent_of now 0 ≡ 0 → parent_of rows 0 ≡ 0 → (n m id : ℕ) → id ≢ 0
      → is_within n rows id ≡ true → is_below m now (parent_of rows id) id ≡ false
  parent_apart root root_before n m id some within =
      false_from_ne_true (is_below m now (parent_of rows id) id) (λ below.
      no_loop n (suc m) rows id root_before within some
      (is_below-step m rows id id
      ∙ or_right (parent_of rows id == id) _ (below_was root id some m (parent_of rows id) below)))

  pub parent_other : parent_of rows 0 ≡ 0 → (n id : ℕ) → id ≢ 0 → is_within n rows id ≡ true
      → (parent_of rows id == id) ≡ false
  parent_other root n id some within =
      false_from_ne_true (parent_of rows id == id) (λ here.
      no_loop n 1 rows id root within some
      (is_below-step 0 rows id id ∙ or_left (parent_of rows id == id) _ here))

-- ---- a row that is moved into its parent

-- the row of the list is found by its id, if none before it has the id
pub parent_middle : (prefix : List LayerRow) (row : LayerRow) (rest : List LayerRow)
    → NonePasses (has_id row.id) prefix → parent_of (prefix ++ row ∷ rest) row.id ≡ row.parent
parent_middle [] row rest away = rw (eq-eqb row.id row.id refl) refl
parent_middle (r ∷ prefix) row rest away =
    let P : LayerRow → Type 0 = λ q. has_id row.id q ≡ false in
    rw (All-head P r prefix away) (parent_middle prefix row rest (All-tail P r prefix away))

-- an id that no row has
pub has_none : (rows : List LayerRow) (id : ℕ) → NonePasses (has_id id) rows
    → has_row rows id ≡ false
has_none [] id away = refl
has_none (r ∷ rows) id away =
    let P : LayerRow → Type 0 = λ q. has_id id q ≡ false in
    rw (All-head P r rows away) (has_none rows id (All-tail P r rows away))

-- tests of the ids of these rows are tests of those of the whole
half_all : (test : ℕ → Bool) (prefix rest : List LayerRow)
    → list_all (λ row. test row.id) (half prefix rest)
    ≡ list_all (λ row. test row.id) (prefix ++ rest)
half_all test prefix rest =
    list_all-append (λ row. test row.id) (map in_place prefix) (map at_root rest)
    ∙ ap (λ b. b && list_all (λ row. test row.id) (map at_root rest))
    (list_all-map (λ row. test row.id) in_place prefix)
    ∙ ap (λ b. list_all (λ row. test row.id) prefix && b)
    (list_all-map (λ row. test row.id) at_root rest)
    ∙ sym (list_all-append (λ row. test row.id) prefix rest)

module _ (prefix rest : List LayerRow) (tree : IsLayerTree (prefix ++ rest)) where
  -- no row's depth is above the limit
  pub half_within : are_within (half prefix rest) ≡ true
  half_within =
      half_all (is_within nesting_limit (half prefix rest)) prefix rest
      ∙ list_all-from_AllPass (λ row. is_within nesting_limit (half prefix rest) row.id)
      (prefix ++ rest) (λ k d in_list.
      within_stays (prefix ++ rest) (half prefix rest) (half_parent prefix rest) nesting_limit
      (get_or (prefix ++ rest) k d).id (tree.within k d in_list))

  half_numbered : All (λ row. row.id ≢ 0) (half prefix rest)
  half_numbered =
      All-append (λ row. row.id ≢ 0) (map in_place prefix) (map at_root rest)
      (All-map (λ row. row.id ≢ 0) in_place prefix
      (All-before (λ row. row.id ≢ 0) prefix rest tree.numbered))
      (All-map (λ row. row.id ≢ 0) at_root rest
      (All-after (λ row. row.id ≢ 0) prefix rest tree.numbered))

  pub half_root : parent_of (half prefix rest) 0 ≡ 0
  half_root = parent-none (half prefix rest) half_numbered

  pub whole_root : parent_of (prefix ++ rest) 0 ≡ 0
  whole_root = parent-none (prefix ++ rest) tree.numbered

module _ (prefix : List LayerRow) (row : LayerRow) (rest : List LayerRow)
    (tree : IsLayerTree (prefix ++ row ∷ rest)) where
  pub row_numbered : row.id ≢ 0
  row_numbered = All-middle (λ r. r.id ≢ 0) prefix row rest tree.numbered

  pub prefix_lacks : NonePasses (has_id row.id) prefix
  prefix_lacks = before_away (λ r. r.id) prefix row rest tree.distinct

  pub rest_away : NonePasses (has_id row.id) rest
  rest_away = after_away (λ r. r.id) prefix row rest tree.distinct

  own_parent : parent_of (prefix ++ row ∷ rest) row.id ≡ row.parent
  own_parent = parent_middle prefix row rest prefix_lacks

  own_within : is_within nesting_limit (prefix ++ row ∷ rest) row.id ≡ true
  own_within = All-middle
      (λ r. is_within nesting_limit (prefix ++ row ∷ rest) r.id ≡ true) prefix row rest tree.within

  -- its parent is the root or a group
  pub parent_there : is_root_or_group (half prefix (row ∷ rest)) row.parent ≡ true
  parent_there =
      half_root_or_group prefix (row ∷ rest) row.parent
      ∙ All-middle (λ r. is_root_or_group (prefix ++ row ∷ rest) r.parent ≡ true) prefix row rest
      tree.parents

  -- and neither the row nor below it
  pub parent_free : is_in (half prefix (row ∷ rest)) row.parent row.id ≡ false
  parent_free =
      or_from (row.parent == row.id)
      (is_below nesting_limit (half prefix (row ∷ rest)) row.parent row.id)
      (ap (λ p. p == row.id) (sym own_parent)
      ∙ parent_other (prefix ++ row ∷ rest) (half prefix (row ∷ rest))
      (half_parent prefix (row ∷ rest)) (whole_root prefix (row ∷ rest) tree) nesting_limit row.id
      row_numbered own_within)
      (ap (λ p. is_below nesting_limit (half prefix (row ∷ rest)) p row.id) (sym own_parent)
      ∙ parent_apart (prefix ++ row ∷ rest) (half prefix (row ∷ rest))
      (half_parent prefix (row ∷ rest)) (half_root prefix (row ∷ rest) tree)
      (whole_root prefix (row ∷ rest) tree) nesting_limit nesting_limit row.id row_numbered
      own_within)
