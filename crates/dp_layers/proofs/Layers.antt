-- The rows of a tree without what they hold, after a change.
use Rattle.std.proofs.Common.{arith, ◌≡◌, ℕ, not, List, [], ◌∷◌, map, None, refl, ap, sym, ◌∙◌}
use Rattle.std.proofs.Common.{Bool, ◌&&◌}
use Rattle.std.specs.List.{filter, list_all}
use Rattle.std.specs.Option.{option_map}
use Rattle.std.proofs.lemmas.Bool.{cond_both}
use Rattle.std.proofs.lemmas.Simd.{map-map}
use Rattle.dp_layers.specs.declared.row.LayerRow.{LayerRow}
use Rattle.dp_layers.specs.Layers.{has_id, row_of, is_in, is_within, are_within}
use Rattle.dp_layers.specs.Rows.{Row, layers_of, fill_row}
use Rattle.dp_layers.specs.Changes.{change_row, with_layer, rows_changed, deleted, moved, placed}
use Rattle.dp_layers.specs.Changes.{set_parent}
use Rattle.dp_layers.specs.declared.lookup.Moved.{Moved}
use Rattle.dp_layers.proofs.Finding.{row_of-map}
use Rattle.dp_layers.proofs.Placing.{filter-map, placed-map}

pub map-same : {A B : Type 0} (f g : A → B) → ((x : A) → f x ≡ g x) → (xs : List A)
    → map f xs ≡ map g xs
map-same f g same [] = refl
map-same f g same (x ∷ xs) =
    ap (λ y. y ∷ map f xs) (same x) ∙ ap (λ ys. g x ∷ ys) (map-same f g same xs)

-- ---- a row moved to another parent

keeps-id : (id parent : ℕ) (row : LayerRow) → (change_row id (set_parent parent) row).id ≡ row.id
keeps-id id parent row =
    cond_both (has_id id row) (set_parent parent row) row (λ r. r.id ≡ row.id) (λ _. refl) (λ _.
    refl)

pub row_of_moved : (rows : List LayerRow) (moved : Moved) (id : ℕ)
    → row_of (map (change_row moved.id (set_parent moved.parent)) rows) id
    ≡ option_map (change_row moved.id (set_parent moved.parent)) (row_of rows id)
row_of_moved rows moved id =
    row_of-map (change_row moved.id (set_parent moved.parent)) (keeps-id moved.id moved.parent) id
    rows

all_moved : (test : ℕ → Bool) (id parent : ℕ) (rows : List LayerRow)
    → list_all (λ row. test row.id) rows
    ≡ list_all (λ row. test row.id) (map (change_row id (set_parent parent)) rows)
all_moved test id parent [] = refl
all_moved test id parent (r ∷ rows) =
    ap (λ b. test r.id && b) (all_moved test id parent rows)
    ∙ ap (λ i. test i && list_all (λ row. test row.id)
    (map (change_row id (set_parent parent)) rows)) (sym (keeps-id id parent r))

-- the rows as they stand have the same ids
pub within_moved : (rows : List LayerRow) (id parent : ℕ)
    → list_all (λ row. is_within 16 (map (change_row id (set_parent parent)) rows) row.id) rows
    ≡ are_within (map (change_row id (set_parent parent)) rows)
within_moved rows id parent =
    all_moved (is_within 16 (map (change_row id (set_parent parent)) rows)) id parent rows

module _ {X : Type 0} where
  pub layers_of-changed : (rows : List (Row X)) (id : ℕ) (change : LayerRow → LayerRow)
      → layers_of (rows_changed rows id change) ≡ map (change_row id change) (layers_of rows)
  layers_of-changed rows id change =
      map-map (λ (r : Row X). r.layer) (λ (r : Row X). with_layer r (change_row id change r.layer))
      rows
      ∙ sym (map-map (change_row id change) (λ (r : Row X). r.layer) rows)

  pub layers_of-deleted : (rows : List (Row X)) (id : ℕ)
      → layers_of (deleted rows id) ≡ filter (λ row. not (is_in (layers_of rows) row.id id))
      (layers_of rows)
  layers_of-deleted rows id =
      sym (filter-map (λ (r : Row X). r.layer) (λ l. not (is_in (layers_of rows) l.id id)) rows)

  pub layers_of-moved : (rows : List (Row X)) (id parent above : ℕ)
      → layers_of (moved rows id parent above) ≡ placed has_id
      (map (change_row id (set_parent parent)) (layers_of rows)) id above
  layers_of-moved rows id parent above =
      sym (placed-map (λ (r : Row X). r.layer) has_id (rows_changed rows id (set_parent parent)) id
      above)
      ∙ ap (λ ls. placed has_id ls id above) (layers_of-changed rows id (set_parent parent))

  pub fill-absent : (id : ℕ) (x : X) (rows : List (Row X)) → row_of (layers_of rows) id ≡ None
      → map (fill_row id x) rows ≡ rows
  fill-absent id x [] absent = refl
  fill-absent id x (r ∷ rows) absent = grind (arith, fill-absent id x rows)
