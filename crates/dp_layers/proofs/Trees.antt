-- What a command makes of a tree of layers is a tree of layers.
use Rattle.std.proofs.Common.{◌≡◌, ◌≢◌, ◌==◌, ◌||◌, ◌⊎◌, inl, inr, ℕ, Bool, true, false, not, List}
use Rattle.std.proofs.Common.{[], ◌∷◌, ◌++◌, map, length, get_or, Option, None, Some, refl, ap, sym}
use Rattle.std.proofs.Common.{◌∙◌, subst, ⊎_elim, eq-eqb, ◌<◌, arith}
use Rattle.std.specs.Prelude.{is_some, All}
use Rattle.std.specs.List.{filter, IsDistinct}
use Rattle.std.specs.Option.{option_map, option_map_or}
use Rattle.std.proofs.lemmas.Bool.{cases_eq, cond_both, false≢true, or_parts, or_from, not-true}
use Rattle.std.proofs.lemmas.Bool.{not_from_false, false_from_ne_true}
use Rattle.std.proofs.lemmas.List.{length_push, length-map}
use Rattle.std.proofs.lemmas.List.Elements.{All-cons, All-head, All-tail, All-nil, All-push}
use Rattle.std.proofs.lemmas.List.Elements.{All-map, All-filter}
use Rattle.std.proofs.lemmas.List.Filters.{length-filter_both}
use Rattle.dp_msg_draw.specs.Limits.{IsListedMode}
use Rattle.dp_layers.specs.declared.row.LayerRow.{LayerRow}
use Rattle.dp_layers.specs.Layers.{has_id, row_of, has_row, is_group_row, is_root_or_group}
use Rattle.dp_layers.specs.Layers.{parent_of, is_within, is_below, is_in}
use Rattle.dp_layers.specs.Changes.{placed}
use Rattle.dp_layers.specs.Tree.{IsLayerTree}
use Rattle.dp_layers.proofs.Going.{is_within-step, is_within-agree, is_below-step, is_below-more}
use Rattle.dp_layers.proofs.Going.{no_loop}
use Rattle.dp_layers.proofs.Finding.{ids_of, AreDistinct, AreDistinct-append, AreDistinct-cons}
use Rattle.dp_layers.proofs.Finding.{AreDistinct-none, AreDistinct-filter, AreDistinct-tail}
use Rattle.dp_layers.proofs.Finding.{AreDistinct-absent, AreApart, row_of-map, row_of-filter}
use Rattle.dp_layers.proofs.Finding.{row_of-push, found_first, missed_first}
use Rattle.dp_layers.proofs.Placing.{IsPlace, row_of-placed, AreDistinct-placed, All-placed}
use Rattle.dp_layers.proofs.Placing.{length-placed}

-- ---- what holds of each row

All-found : (P : LayerRow → Type 0) (rows : List LayerRow) (x : ℕ) (row : LayerRow) → All P rows
    → row_of rows x ≡ Some row → P row
All-found P [] x row each found =
    absurd (let e : ◌≡◌ {A = Option LayerRow} None (Some row) = found in cc)
All-found P (r ∷ rows) x row each found =
    grind (arith, All-head P r rows each, All-found P rows x row (All-tail P r rows each))

pub id_found : (rows : List LayerRow) (x : ℕ) (row : LayerRow) → row_of rows x ≡ Some row → row.id
    ≡ x
id_found [] x row found = absurd (let e : ◌≡◌ {A = Option LayerRow} None (Some row) = found in cc)
id_found (r ∷ rows) x row found = grind (arith, id_found rows x row)

-- each row is present
pub All-present : (rows : List LayerRow) → All (λ row. has_row rows row.id ≡ true) rows
All-present [] = All-nil (λ row. has_row [] row.id ≡ true)
All-present (r ∷ rows) =
    All-cons (λ row. has_row (r ∷ rows) row.id ≡ true) r rows (grind arith) (λ k d in_list.
    let there = All-present rows k d in_list in grind arith)

-- each row is the one that is found at its id
pub All-itself : (rows : List LayerRow) → AreDistinct rows
    → All (λ row. row_of rows row.id ≡ Some row) rows
All-itself [] distinct = All-nil (λ row. row_of [] row.id ≡ Some row)
All-itself (r ∷ rows) distinct =
    All-cons (λ row. row_of (r ∷ rows) row.id ≡ Some row) r rows (found_first r rows) (λ k d
    in_list.
    let found = All-itself rows (AreDistinct-tail r rows distinct) k d in_list in
    let absent = AreDistinct-absent r rows distinct in grind (arith, found))

parent_at : (rows : List LayerRow) → AreDistinct rows → (k : ℕ) (d : LayerRow) → k < length rows
    → parent_of rows (get_or rows k d).id ≡ (get_or rows k d).parent
parent_at rows distinct k d in_list =
    ap (λ o. option_map_or (λ row. row.parent) o 0) (All-itself rows distinct k d in_list)

absent_zero : (rows : List LayerRow) → All (λ row. row.id ≢ 0) rows → row_of rows 0 ≡ None
absent_zero [] each = refl
absent_zero (r ∷ rows) each =
    let P : LayerRow → Type 0 = λ row. row.id ≢ 0 in
    grind (arith, absent_zero rows (All-tail P r rows each), All-head P r rows each)

-- what is kept by the rows that pass a test
pub All-kept : (P : LayerRow → Type 0) (keep : LayerRow → Bool) (rows : List LayerRow)
    → All (λ row. keep row ≡ true → P row) rows → All P (filter keep rows)
All-kept P keep [] each = All-nil P
All-kept P keep (r ∷ rows) each =
    let Q : LayerRow → Type 0 = λ row. keep row ≡ true → P row in
    let rest : All P (filter keep rows) = All-kept P keep rows (All-tail Q r rows each) in
    cond_both (keep r) (r ∷ filter keep rows) (filter keep rows) (All P)
    (λ kept. All-cons P r (filter keep rows) (All-head Q r rows each kept) rest)
    (λ _. rest)

-- ---- going up in a tree

-- it is the root, or a row of the list
abbrev pub IsThere : List LayerRow → ℕ → Type 0
IsThere rows x = (x ≡ 0) ⊎ (has_row rows x ≡ true)

group_is_there : (rows : List LayerRow) (x : ℕ) → is_root_or_group rows x ≡ true → IsThere rows x
group_is_there rows x ok = grind arith

module _ (rows : List LayerRow)
    (parents : All (λ row. is_root_or_group rows row.parent ≡ true) rows) where
  up_is_there : (x : ℕ) → IsThere rows (parent_of rows x)
  up_is_there x =
      let found = All-found (λ r. is_root_or_group rows r.parent ≡ true) rows x in
      grind (arith, found, group_is_there rows)

parent_of-zero : (rows : List LayerRow) → All (λ row. row.id ≢ 0) rows → parent_of rows 0 ≡ 0
parent_of-zero rows numbered =
    ap (λ o. option_map_or (λ row. row.parent) o 0) (absent_zero rows numbered)

apart_from : (rows : List LayerRow) → All (λ row. row.id ≢ 0) rows
    → All (λ row. is_within 16 rows row.id ≡ true) rows
    → All (λ row. is_below 16 rows row.id row.id ≡ false) rows
apart_from rows numbered within k d in_list =
    let row : LayerRow = get_or rows k d in
    false_from_ne_true (is_below 16 rows row.id row.id)
    (no_loop 16 16 rows row.id (parent_of-zero rows numbered) (within k d in_list)
    (numbered k d in_list))

-- ---- one row more at the end

module _ (rows : List LayerRow) (r : LayerRow) (tree : IsLayerTree rows) (named : r.id ≢ 0)
    (absent : row_of rows r.id ≡ None) where
  more_found : (x : ℕ) → IsThere rows x → row_of (rows ++ r ∷ []) x ≡ row_of rows x
  more_found x there = grind (arith, row_of-push rows r x absent)

  more_parent : (x : ℕ) → IsThere rows x → parent_of (rows ++ r ∷ []) x ≡ parent_of rows x
  more_parent x there = ap (λ o. option_map_or (λ row. row.parent) o 0) (more_found x there)

  more_holder : (x : ℕ) → is_root_or_group rows x ≡ true
      → is_root_or_group (rows ++ r ∷ []) x ≡ true
  more_holder x ok =
      ap (λ o. x == 0 || option_map_or (λ row. row.group) o false)
      (more_found x (group_is_there rows x ok)) ∙ ok

  more_within : (n x : ℕ) → IsThere rows x → is_within n (rows ++ r ∷ []) x ≡ is_within n rows x
  more_within =
      is_within-agree (IsThere rows) rows (rows ++ r ∷ []) (λ x _. up_is_there rows tree.parents x)
      more_parent

  pub tree-created : is_root_or_group rows r.parent ≡ true → is_within 15 rows r.parent ≡ true
      → length rows < 256 → IsListedMode r.mode → IsLayerTree (rows ++ r ∷ [])
  tree-created holder deep few listed =
      let here : row_of (rows ++ r ∷ []) r.id ≡ Some r = row_of-push rows r r.id absent
      ∙ rw (eq-eqb r.id r.id refl) refl in
      let up : parent_of (rows ++ r ∷ []) r.id ≡ r.parent = ap
      (λ o. option_map_or (λ row. row.parent) o 0) here in
      let numbered = All-push (λ row. row.id ≢ 0) rows r tree.numbered named in
      let new_within : is_within 16 (rows ++ r ∷ []) r.id ≡ true =
      is_within-step 15 (rows ++ r ∷ []) r.id named
      ∙ ap (is_within 15 (rows ++ r ∷ [])) up
      ∙ more_within 15 r.parent (group_is_there rows r.parent holder)
      ∙ deep in
      let within = All-push (λ row. is_within 16 (rows ++ r ∷ []) row.id ≡ true) rows r
      (λ k d in_list. more_within 16 (get_or rows k d).id (inr (All-present rows k d in_list))
      ∙ tree.within k d in_list) new_within in
      let single : AreDistinct (r ∷ []) = AreDistinct-cons r [] refl AreDistinct-none in
      let apart : AreApart (r ∷ []) rows = λ x.
      ⊎_elim
      (λ (e : r.id ≡ x). let P : ℕ → Type 0 = λ y. row_of rows y ≡ None in inr (subst P e absent))
      (λ (ne : r.id ≢ x). inl (missed_first r [] x ne))
      (cases_eq r.id x) in
      record {
        distinct = AreDistinct-append rows (r ∷ []) tree.distinct single apart;
        numbered = numbered;
        parents = All-push (λ row. is_root_or_group (rows ++ r ∷ []) row.parent ≡ true) rows r
            (λ k d in_list. more_holder (get_or rows k d).parent (tree.parents k d in_list))
            (more_holder r.parent holder);
        apart = apart_from (rows ++ r ∷ []) numbered within;
        within = within;
        few = omega (arith, length_push rows r, few);
        modes = All-push (λ row. IsListedMode row.mode) rows r tree.modes listed;
      }

-- ---- changes that keep the ids and the groups

module _ (f : LayerRow → LayerRow) (keeps_id : (row : LayerRow)
    → (f row).id ≡ row.id) (keeps_group : (row : LayerRow)
    → (f row).group ≡ row.group) (rows : List LayerRow) where
  pub ids_of-map : (xs : List LayerRow) → ids_of (map f xs) ≡ ids_of xs
  ids_of-map [] = refl
  ids_of-map (r ∷ xs) =
      ap (λ i. i ∷ ids_of (map f xs)) (keeps_id r) ∙ ap (λ is. r.id ∷ is) (ids_of-map xs)

  group-map : (x : ℕ) → is_group_row (map f rows) x ≡ is_group_row rows x
  group-map x = grind (arith, row_of-map f keeps_id x rows, keeps_group)

  pub tree-mapped : IsLayerTree rows → All (λ row. is_root_or_group rows (f row).parent ≡ true) rows
      → All (λ row. is_within 16 (map f rows) row.id ≡ true) (map f rows)
      → All (λ row. IsListedMode (f row).mode) rows → IsLayerTree (map f rows)
  tree-mapped tree parents within modes =
      let numbered : All (λ row. row.id ≢ 0) (map f rows) =
      All-map (λ row. row.id ≢ 0) f rows
      (λ k d in_list e. tree.numbered k d in_list (sym (keeps_id (get_or rows k d)) ∙ e)) in
      record {
        distinct = (let P : List ℕ → Type 0 = λ is. IsDistinct ◌==◌ is in
            subst P (sym (ids_of-map rows)) tree.distinct);
        numbered = numbered;
        parents = All-map (λ row. is_root_or_group (map f rows) row.parent ≡ true) f rows
            (λ k d in_list. ap (λ b. (f (get_or rows k d)).parent == 0 || b)
            (group-map (f (get_or rows k d)).parent) ∙ parents k d in_list);
        apart = apart_from (map f rows) numbered within;
        within = within;
        few = omega (arith, length-map rows f, tree.few);
        modes = All-map (λ row. IsListedMode row.mode) f rows modes;
      }

  -- if the parents are kept, too
  pub tree-kept : ((row : LayerRow) → (f row).parent ≡ row.parent) → IsLayerTree rows
      → All (λ row. IsListedMode (f row).mode) rows → IsLayerTree (map f rows)
  tree-kept keeps_parent tree modes =
      let same : (x : ℕ) → parent_of (map f rows) x ≡ parent_of rows x = λ x.
      ap (λ o. option_map_or (λ row. row.parent) o 0) (row_of-map f keeps_id x rows)
      ∙ at (row_of rows x) in
      tree-mapped tree
      (λ k d in_list. ap (is_root_or_group rows) (keeps_parent (get_or rows k d))
      ∙ tree.parents k d in_list)
      (All-map (λ row. is_within 16 (map f rows) row.id ≡ true) f rows (λ k d in_list.
      ap (is_within 16 (map f rows)) (keeps_id (get_or rows k d))
      ∙ is_within-agree (λ _. Unit {0}) rows (map f rows) (λ _ _. tt) (λ x _. same x) 16
      (get_or rows k d).id tt
      ∙ tree.within k d in_list))
      modes
    where
      at : (o : Option LayerRow)
          → option_map_or (λ row. row.parent) (option_map f o) 0 ≡ option_map_or (λ row. row.parent)
          o 0
      at None = refl
      at (Some row) = keeps_parent row

-- ---- another order

module _ (rows : List LayerRow) (id above : ℕ) (place : IsPlace rows id above)
    (tree : IsLayerTree rows) where
  pub tree-placed : IsLayerTree (placed has_id rows id above)
  tree-placed =
      let now : List LayerRow = placed has_id rows id above in
      let found : (x : ℕ) → row_of now x ≡ row_of rows x = row_of-placed rows id above place in
      let same : (x : ℕ) → parent_of now x ≡ parent_of rows x = λ x. ap
      (λ o. option_map_or (λ row. row.parent) o 0) (found x) in
      let numbered = All-placed (λ row. row.id ≢ 0) has_id rows id above tree.numbered in
      let within = All-placed (λ row. is_within 16 now row.id ≡ true) has_id rows id above
      (λ k d in_list.
      is_within-agree (λ _. Unit {0}) rows now (λ _ _. tt) (λ x _. same x) 16 (get_or rows k d).id
      tt ∙ tree.within k d in_list) in
      record {
        distinct = AreDistinct-placed rows id above tree.distinct;
        numbered = numbered;
        parents =
            All-placed (λ row. is_root_or_group now row.parent ≡ true) has_id rows id above
            (λ k d in_list.
            ap (λ o. (get_or rows k d).parent == 0 || option_map_or (λ row. row.group) o false)
            (found (get_or rows k d).parent) ∙ tree.parents k d in_list);
        apart = apart_from now numbered within;
        within = within;
        few = omega (arith, length-placed has_id rows id above, tree.few);
        modes = All-placed (λ row. IsListedMode row.mode) has_id rows id above tree.modes;
      }

-- ---- a row and all below it gone

module _ (rows : List LayerRow) (id : ℕ) (present : has_row rows id ≡ true)
    (tree : IsLayerTree rows) where
  abbrev stays : ℕ → Bool
  stays x = not (is_in rows x id)

  abbrev left : List LayerRow
  left = filter (λ row. stays row.id) rows

  named : id ≢ 0
  named e =
      let P : ℕ → Type 0 = λ x. has_row rows x ≡ true in
      false≢true (sym (ap is_some (absent_zero rows tree.numbered)) ∙ subst P e present)

  -- it is the root, or a row that stays
  abbrev IsLeft : ℕ → Type 0
  IsLeft x = (x ≡ 0) ⊎ ((has_row rows x ≡ true) × (stays x ≡ true))

  left_found : (x : ℕ) → IsLeft x → row_of left x ≡ row_of rows x
  left_found x there =
      row_of-filter stays x rows
      ∙ ⊎_elim
      (λ (zero : x ≡ 0).
      let P : ℕ → Type 0 = λ y. row_of rows y ≡ None in
      let none : row_of rows x ≡ None = subst P (sym zero) (absent_zero rows tree.numbered) in
      cond_both (stays x) (row_of rows x) None (λ o. o ≡ row_of rows x) (λ _. refl) (λ _. sym none))
      (λ (ok : (has_row rows x ≡ true) × (stays x ≡ true)). rw ok.1 refl)
      there

  -- the parent of a row that stays
  up_is_left : (x : ℕ) → has_row rows x ≡ true → stays x ≡ true → IsLeft (parent_of rows x)
  up_is_left x there kept =
      let up : ℕ = parent_of rows x in
      let root = parent_of-zero rows tree.numbered in
      let out : is_in rows x id ≡ false = not-true (is_in rows x id) kept in
      let below : is_below 16 rows x id ≡ false = (or_parts (x == id) (is_below 16 rows x id) out).1
      in
      let parts = or_parts (up == id) (is_below 15 rows up id) (sym (is_below-step 15 rows x id)
      ∙ below) in
      let nonzero : x ≢ 0 = λ e.
      (let P : ℕ → Type 0 = λ y. has_row rows y ≡ true in
      false≢true (sym (ap is_some (absent_zero rows tree.numbered)) ∙ subst P e there)) in
      let within : is_within 16 rows x ≡ true = found_within (row_of rows x) refl in
      let higher : is_within 15 rows up ≡ true = sym (is_within-step 15 rows x nonzero) ∙ within in
      ⊎_elim
      (λ (zero : up ≡ 0). inl zero)
      (λ (ok : has_row rows up ≡ true).
      inr (
        ok,
        not_from_false (is_in rows up id)
            (or_from (up == id) (is_below 16 rows up id) parts.0
            (is_below-more 15 rows up id root named higher parts.1)),
      ))
      (up_is_there rows tree.parents x)
    where
      found_within : (o : Option LayerRow) → row_of rows x ≡ o → is_within 16 rows x ≡ true
      found_within None is = absurd (false≢true (sym (ap is_some is) ∙ there))
      found_within (Some row) is =
          let P : LayerRow → Type 0 = λ r. is_within 16 rows r.id ≡ true in
          let Q : ℕ → Type 0 = λ y. is_within 16 rows y ≡ true in
          subst Q (id_found rows x row is) (All-found P rows x row tree.within is)

  left_closed : (x : ℕ) → IsLeft x → IsLeft (parent_of rows x)
  left_closed x there =
      ⊎_elim
      (λ (zero : x ≡ 0). inl (ap (parent_of rows) zero ∙ parent_of-zero rows tree.numbered))
      (λ (ok : (has_row rows x ≡ true) × (stays x ≡ true)). up_is_left x ok.0 ok.1)
      there

  left_within : (n x : ℕ) → IsLeft x → is_within n left x ≡ is_within n rows x
  left_within =
      is_within-agree IsLeft rows left left_closed
      (λ x there. ap (λ o. option_map_or (λ row. row.parent) o 0) (left_found x there))

  pub tree-deleted : IsLayerTree (filter (λ row. not (is_in rows row.id id)) rows)
  tree-deleted =
      let keep : LayerRow → Bool = λ row. stays row.id in
      let numbered = All-filter keep (λ row. row.id ≢ 0) rows tree.numbered in
      let within = All-kept (λ row. is_within 16 left row.id ≡ true) keep rows (λ k d in_list kept.
      left_within 16 (get_or rows k d).id (inr (All-present rows k d in_list, kept))
      ∙ tree.within k d in_list) in
      record {
        distinct = AreDistinct-filter keep rows tree.distinct;
        numbered = numbered;
        parents =
            All-kept (λ row. is_root_or_group left row.parent ≡ true) keep rows (λ k d in_list kept.
            holder (get_or rows k d) (tree.parents k d in_list)
            (parent_left k d in_list kept));
        apart = apart_from left numbered within;
        within = within;
        few = omega (
          arith,
          length-filter_both keep (λ row. not (keep row)) (λ _. refl) rows,
          tree.few,
        );
        modes = All-filter keep (λ row. IsListedMode row.mode) rows tree.modes;
      }
    where
      holder : (row : LayerRow) → is_root_or_group rows row.parent ≡ true → IsLeft row.parent
          → is_root_or_group left row.parent ≡ true
      holder row ok there =
          ap (λ o. row.parent == 0 || option_map_or (λ r. r.group) o false)
          (left_found row.parent there) ∙ ok

      parent_left : (k : ℕ) (d : LayerRow) → k < length rows → stays (get_or rows k d).id ≡ true
          → IsLeft (get_or rows k d).parent
      parent_left k d in_list kept =
          let row : LayerRow = get_or rows k d in
          let P : ℕ → Type 0 = λ p. IsLeft p in
          subst P (parent_at rows tree.distinct k d in_list)
          (up_is_left row.id (All-present rows k d in_list) kept)
