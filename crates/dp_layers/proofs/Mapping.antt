-- What the commands make of rows with other contents.
use Rattle.std.proofs.Common.{◌≡◌, ℕ, not, cond, List, [], ◌∷◌, Option, refl, ap, sym, ◌∙◌}
use Rattle.std.specs.List.{filter}
use Rattle.std.specs.Option.{option_map}
use Rattle.std.proofs.lemmas.List.{map-append}
use Rattle.dp_msg_draw.specs.declared.draw.Draw.{Draw}
use Rattle.dp_msg_draw.specs.declared.draw.Draw.TheVariants.{LayerCreate, LayerAttr, LayerTitle}
use Rattle.dp_msg_draw.specs.declared.draw.Draw.TheVariants.{LayerMove, LayerDelete}
use Rattle.dp_layers.specs.declared.row.LayerRow.{LayerRow}
use Rattle.dp_layers.specs.Layers.{has_id, is_in}
use Rattle.dp_layers.specs.Rows.{Row, layers_of, map_content, map_contents}
use Rattle.dp_layers.specs.Changes.{change_row, with_layer, rows_changed, new_row, set_attr}
use Rattle.dp_layers.specs.Changes.{set_title, set_parent, placed, deleted, has_effect, effect_on}
use Rattle.dp_layers.specs.Changes.{rows_after}
use Rattle.dp_layers.proofs.Finding.{cond-ap}
use Rattle.dp_layers.proofs.Placing.{filter-map, placed-map}
use Rattle.std.proofs.lemmas.Simd.{map-map}
use Rattle.dp_layers.proofs.Contents.{layers_of-mapped}

module _ {X Y : Type 0} (f : X → Y) (rows : List (Row X)) where
  changed-mapped : (id : ℕ) (change : LayerRow → LayerRow)
      → map_contents f (rows_changed rows id change) ≡ rows_changed (map_contents f rows) id change
  changed-mapped id change =
      map-map (map_content f) (λ (r : Row X). with_layer r (change_row id change r.layer)) rows
      ∙ sym (map-map (λ (r : Row Y). with_layer r (change_row id change r.layer)) (map_content f)
      rows)

  deleted-mapped : (id : ℕ) → map_contents f (deleted rows id) ≡ deleted (map_contents f rows) id
  deleted-mapped id =
      sym (filter-map (map_content f) (λ (r : Row Y). not (is_in (layers_of rows) r.layer.id id))
      rows)
      ∙ ap (λ ls. filter (λ (r : Row Y). not (is_in ls r.layer.id id)) (map_contents f rows))
      (sym (layers_of-mapped f rows))

  effect-mapped : (op : Draw) (x : Option X)
      → map_contents f (effect_on rows op x) ≡ effect_on (map_contents f rows) op (option_map f x)
  effect-mapped (LayerCreate id parent group title) x =
      map-append (map_content f) rows
      (record { layer = new_row id parent group title; content = x } ∷ [])
  effect-mapped (LayerAttr id opacity mode hidden) x =
      changed-mapped id (set_attr opacity mode hidden)
  effect-mapped (LayerTitle id title) x = changed-mapped id (set_title title)
  effect-mapped (LayerMove id parent above) x =
      sym (placed-map (map_content f) (λ i (r : Row Y). has_id i r.layer)
      (rows_changed rows id (set_parent parent)) id above)
      ∙ ap (λ rs. placed (λ i (r : Row Y). has_id i r.layer) rs id above)
      (changed-mapped id (set_parent parent))
  effect-mapped (LayerDelete id) x = deleted-mapped id
  effect-mapped _ x = refl

  -- the rows after a command
  pub after-mapped : (op : Draw) (x : Option X)
      → map_contents f (rows_after rows op x) ≡ rows_after (map_contents f rows) op (option_map f x)
  after-mapped op x =
      cond-ap (map_contents f) (has_effect (layers_of rows) op) (effect_on rows op x) rows
      ∙ ap (λ rs. cond (has_effect (layers_of rows) op) rs (map_contents f rows))
      (effect-mapped op x)
      ∙ ap (λ ls. cond (has_effect ls op) (effect_on (map_contents f rows) op (option_map f x))
      (map_contents f rows)) (sym (layers_of-mapped f rows))
