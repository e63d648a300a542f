-- The rows after a command: they are a tree.
use Rattle.std.proofs.Common.{arith, ◌≡◌, ◌≢◌, ◌==◌, ◌||◌, ◌&&◌, inl, inr, ℕ, Bool, true, false}
use Rattle.std.proofs.Common.{not, List, [], ◌∷◌, ◌++◌, map, length, get_or, Option, None, refl, ap}
use Rattle.std.proofs.Common.{sym, ◌∙◌, subst}
use Rattle.std.specs.Prelude.{is_some, All, nat_lt}
use Rattle.std.specs.List.{filter}
use Rattle.std.proofs.lemmas.Bool.{cond_both, and_parts, ltb-true}
use Rattle.std.proofs.lemmas.List.{map-append}
use Rattle.std.proofs.lemmas.List.Elements.{All-push, All-map, All-filter}
use Rattle.std.proofs.lemmas.List.Sums.{AllPass-from_list_all}
use Rattle.dp_msg_draw.specs.Limits.{IsListedMode}
use Rattle.dp_msg_draw.specs.declared.draw.Draw.{Draw}
use Rattle.dp_msg_draw.specs.declared.draw.Draw.TheVariants.{LayerCreate, LayerAttr, LayerTitle}
use Rattle.dp_msg_draw.specs.declared.draw.Draw.TheVariants.{LayerMove, LayerDelete}
use Rattle.dp_layers.specs.declared.row.LayerRow.{LayerRow}
use Rattle.dp_layers.specs.Layers.{has_id, row_of, has_row, is_root_or_group, is_within, is_in}
use Rattle.dp_layers.specs.Layers.{are_within, is_listed_mode}
use Rattle.dp_layers.specs.Rows.{Row, layers_of}
use Rattle.dp_layers.specs.Changes.{change_row, with_layer, rows_changed, can_create, new_row}
use Rattle.dp_layers.specs.Changes.{created, can_set_attr, set_attr, set_title, set_parent}
use Rattle.dp_layers.specs.Changes.{can_move, placed, moved, deleted, rows_after, makes_paint_row}
use Rattle.dp_layers.specs.Tree.{IsLayerTree, IsTree}
use Rattle.dp_layers.proofs.Finding.{row_of-map}
use Rattle.dp_layers.proofs.Placing.{IsPlace, All-placed}
use Rattle.dp_layers.proofs.Trees.{tree-created, tree-kept, tree-mapped, tree-placed, tree-deleted}
use Rattle.dp_layers.proofs.Layers.{layers_of-changed, layers_of-deleted, layers_of-moved}

-- ---- the modes

pub listed : (mode : ℕ) → is_listed_mode mode ≡ true → IsListedMode mode
listed mode h0 = grind arith

pub listed_back : (mode : ℕ) → IsListedMode mode → is_listed_mode mode ≡ true
listed_back mode (inl e) = rw e refl
listed_back mode (inr (inl e)) = rw e refl
listed_back mode (inr (inr (inl e))) = rw e refl
listed_back mode (inr (inr (inr (inl e)))) = rw e refl
listed_back mode (inr (inr (inr (inr (inl e))))) = rw e refl
listed_back mode (inr (inr (inr (inr (inr e))))) = rw e refl

-- ---- each command

-- a row holds something exactly if it is no group
abbrev pub HoldsByKind : {X : Type 0} → Row X → Type 0
HoldsByKind row = is_some row.content ≡ not row.layer.group

module _ (id : ℕ) (change : LayerRow → LayerRow) where
  pub change-id : ((row : LayerRow) → (change row).id ≡ row.id) → (row : LayerRow)
      → (change_row id change row).id ≡ row.id
  change-id keeps row =
      cond_both (has_id id row) (change row) row (λ r. r.id ≡ row.id) (λ _. keeps row) (λ _. refl)

  pub change-group : ((row : LayerRow) → (change row).group ≡ row.group) → (row : LayerRow)
      → (change_row id change row).group ≡ row.group
  change-group keeps row =
      cond_both (has_id id row) (change row) row (λ r. r.group ≡ row.group) (λ _. keeps row)
      (λ _. refl)

  change-parent : ((row : LayerRow) → (change row).parent ≡ row.parent) → (row : LayerRow)
      → (change_row id change row).parent ≡ row.parent
  change-parent keeps row =
      cond_both (has_id id row) (change row) row (λ r. r.parent ≡ row.parent) (λ _. keeps row)
      (λ _. refl)

  change-modes : (rows : List LayerRow) → All (λ row. IsListedMode row.mode) rows
      → ((row : LayerRow) → IsListedMode row.mode → IsListedMode (change row).mode)
      → All (λ row. IsListedMode (change_row id change row).mode) rows
  change-modes rows each keeps k d in_list =
      let row : LayerRow = get_or rows k d in
      cond_both (has_id id row) (change row) row (λ r. IsListedMode r.mode)
      (λ _. keeps row (each k d in_list)) (λ _. each k d in_list)

  contents-changed : {X : Type 0} (rows : List (Row X))
      → ((row : LayerRow) → (change row).group ≡ row.group) → All HoldsByKind rows
      → All HoldsByKind (rows_changed rows id change)
  contents-changed rows keeps each =
      All-map HoldsByKind (λ row. with_layer row (change_row id change row.layer)) rows
      (λ k d in_list. each k d in_list ∙ ap not (sym (change-group keeps (get_or rows k d).layer)))

-- what it takes to be created
record IsCreatable (layers : List LayerRow) (id parent : ℕ) : Type 0 where
  named : id ≢ 0
  absent : has_row layers id ≡ false
  few : nat_lt (length layers) 256 ≡ true
  holder : is_root_or_group layers parent ≡ true
  within : is_within 15 layers parent ≡ true

create_parts : (layers : List LayerRow) (id parent : ℕ) → can_create layers id parent ≡ true
    → IsCreatable layers id parent
create_parts layers id parent can =
    record {
      named = grind arith;
      absent = grind arith;
      few = grind arith;
      holder = grind arith;
      within = grind arith;
    }

pub absent_created : (layers : List LayerRow) (id parent : ℕ)
    → can_create layers id parent ≡ true → row_of layers id ≡ None
absent_created layers id parent can = grind (arith, create_parts layers id parent can)

-- what it takes to be moved
pub record IsMovable (layers : List LayerRow) (id parent above : ℕ) : Type 0 where
  pub present : has_row layers id ≡ true
  pub holder : is_root_or_group layers parent ≡ true
  pub place : (above == 0 || (has_row layers above && not (above == id))) ≡ true
  pub within : are_within (map (change_row id (set_parent parent)) layers) ≡ true

pub move_parts : (layers : List LayerRow) (id parent above : ℕ)
    → can_move layers id parent above ≡ true → IsMovable layers id parent above
move_parts layers id parent above can =
    record {
      present = grind arith;
      holder = grind arith;
      place = grind arith;
      within = grind arith;
    }

-- a row may be placed after another one as before, if the ids are kept
pub place_after : (f : LayerRow → LayerRow) → ((row : LayerRow) → (f row).id ≡ row.id)
    → (layers : List LayerRow) (id above : ℕ)
    → (above == 0 || (has_row layers above && not (above == id))) ≡ true
    → IsPlace (map f layers) id above
place_after f keeps layers id above ok = grind (arith, row_of-map f keeps above layers)

module _ {X : Type 0} (rows : List (Row X)) (tree : IsTree rows) where
  tree-of_layers : (now : List (Row X)) (layers : List LayerRow) → layers_of now ≡ layers
      → IsLayerTree layers → All HoldsByKind now → IsTree now
  tree-of_layers now layers same layer_tree each =
      let P : List LayerRow → Type 0 = λ ls. IsLayerTree ls in
      record { layers = subst P (sym same) layer_tree; contents = each }

  after-create : (id parent : ℕ) (group : Bool) (title : List ℕ) (x : Option X)
      → is_some x ≡ not group → can_create (layers_of rows) id parent ≡ true
      → IsTree (created rows (new_row id parent group title) x)
  after-create id parent group title x fits can =
      let layers : List LayerRow = layers_of rows in
      let row : LayerRow = new_row id parent group title in
      let parts = create_parts layers id parent can in
      tree-of_layers (created rows row x) (layers ++ row ∷ [])
      (map-append (λ (r : Row X). r.layer) rows (record { layer = row; content = x } ∷ []))
      (tree-created layers row tree.layers parts.named (absent_created layers id parent can)
      parts.holder parts.within
      (ltb-true (length layers) 256 parts.few) (inr (inl refl)))
      (All-push HoldsByKind rows (record { layer = row; content = x }) tree.contents fits)

  after-attr : (id opacity mode : ℕ) (hidden : Bool) → can_set_attr (layers_of rows) id mode ≡ true
      → IsTree (rows_changed rows id (set_attr opacity mode hidden))
  after-attr id opacity mode hidden can =
      let change : LayerRow → LayerRow = set_attr opacity mode hidden in
      let ok : IsListedMode mode = listed mode
      (and_parts (has_row (layers_of rows) id) (is_listed_mode mode) can).1 in
      tree-of_layers (rows_changed rows id change) (map (change_row id change) (layers_of rows))
      (layers_of-changed rows id change)
      (tree-kept (change_row id change) (change-id id change (λ _. refl))
      (change-group id change (λ _. refl)) (layers_of rows) (change-parent id change (λ _. refl))
      tree.layers
      (change-modes id change (layers_of rows) tree.layers.modes (λ _ _. ok)))
      (contents-changed id change rows (λ _. refl) tree.contents)

  after-title : (id : ℕ) (title : List ℕ) → IsTree (rows_changed rows id (set_title title))
  after-title id title =
      let change : LayerRow → LayerRow = set_title title in
      tree-of_layers (rows_changed rows id change) (map (change_row id change) (layers_of rows))
      (layers_of-changed rows id change)
      (tree-kept (change_row id change) (change-id id change (λ _. refl))
      (change-group id change (λ _. refl)) (layers_of rows) (change-parent id change (λ _. refl))
      tree.layers
      (change-modes id change (layers_of rows) tree.layers.modes (λ _ was. was)))
      (contents-changed id change rows (λ _. refl) tree.contents)

  after-move : (id parent above : ℕ) → can_move (layers_of rows) id parent above ≡ true
      → IsTree (moved rows id parent above)
  after-move id parent above can =
      let layers : List LayerRow = layers_of rows in
      let change : LayerRow → LayerRow = set_parent parent in
      let f : LayerRow → LayerRow = change_row id change in
      let parts = move_parts layers id parent above can in
      let parents : All (λ row. is_root_or_group layers (f row).parent ≡ true) layers = λ k d
      in_list.
      cond_both (has_id id (get_or layers k d)) (change (get_or layers k d)) (get_or layers k d)
      (λ r. is_root_or_group layers r.parent ≡ true) (λ _. parts.holder)
      (λ _. tree.layers.parents k d in_list) in
      let changed : IsLayerTree (map f layers) =
      tree-mapped f (change-id id change (λ _. refl)) (change-group id change (λ _. refl)) layers
      tree.layers parents
      (AllPass-from_list_all (λ row. is_within 16 (map f layers) row.id) (map f layers)
      parts.within)
      (change-modes id change layers tree.layers.modes (λ _ was. was)) in
      tree-of_layers (moved rows id parent above) (placed has_id (map f layers) id above)
      (layers_of-moved rows id parent above)
      (tree-placed (map f layers) id above
      (place_after f (change-id id change (λ _. refl)) layers id above parts.place) changed)
      (All-placed HoldsByKind (λ i r. has_id i r.layer) (rows_changed rows id change) id above
      (contents-changed id change rows (λ _. refl) tree.contents))

  after-delete : (id : ℕ) → has_row (layers_of rows) id ≡ true → IsTree (deleted rows id)
  after-delete id present =
      tree-of_layers (deleted rows id)
      (filter (λ row. not (is_in (layers_of rows) row.id id)) (layers_of rows))
      (layers_of-deleted rows id)
      (tree-deleted (layers_of rows) id present tree.layers)
      (All-filter (λ row. not (is_in (layers_of rows) row.layer.id id)) HoldsByKind rows
      tree.contents)

  -- every command
  pub tree-after : (op : Draw) (x : Option X) → is_some x ≡ makes_paint_row op
      → IsTree (rows_after rows op x)
  tree-after (LayerCreate id parent group title) x fits =
      cond_both (can_create (layers_of rows) id parent)
      (created rows (new_row id parent group title) x) rows IsTree
      (after-create id parent group title x fits) (λ _. tree)
  tree-after (LayerAttr id opacity mode hidden) x fits =
      cond_both (can_set_attr (layers_of rows) id mode)
      (rows_changed rows id (set_attr opacity mode hidden)) rows IsTree
      (after-attr id opacity mode hidden) (λ _. tree)
  tree-after (LayerTitle id title) x fits =
      cond_both (has_row (layers_of rows) id) (rows_changed rows id (set_title title)) rows IsTree
      (λ _. after-title id title) (λ _. tree)
  tree-after (LayerMove id parent above) x fits =
      cond_both (can_move (layers_of rows) id parent above) (moved rows id parent above) rows IsTree
      (after-move id parent above) (λ _. tree)
  tree-after (LayerDelete id) x fits =
      cond_both (has_row (layers_of rows) id) (deleted rows id) rows IsTree (after-delete id)
      (λ _. tree)
  tree-after _ x fits = tree
