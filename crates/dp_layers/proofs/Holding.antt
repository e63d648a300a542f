-- What is held by the ids of rows, and the rows with it.
use Rattle.std.proofs.Common.{◌≡◌, ◌==◌, ℕ, zero, suc, Bool, true, false, not, cond, List, []}
use Rattle.std.proofs.Common.{◌∷◌, get_or, set, Option, None, Some, refl, ap, sym}
use Rattle.std.proofs.Common.{◌∙◌, subst, ◌<◌, arith, ◌⊎◌, inl}
use Rattle.std.specs.Prelude.{is_some, All, position}
use Rattle.std.specs.Option.{option_map, option_map_or, option_and_then}
use Rattle.std.proofs.lemmas.Bool.{eqb-true, false≢true}
use Rattle.std.proofs.lemmas.List.Elements.{All-head, All-tail, All-map}
use Rattle.std.proofs.lemmas.Simd.{map-map}
use Rattle.dp_msg_draw.specs.declared.draw.Draw.{Draw}
use Rattle.dp_layers.proofs.Finding.{by_test}
use Rattle.dp_layers.specs.declared.row.LayerRow.{LayerRow}
use Rattle.dp_layers.specs.declared.held.Held.{Held}
use Rattle.dp_layers.specs.Layers.{row_of, is_paint_row}
use Rattle.dp_layers.specs.Rows.{Row, layers_of, content_of, fill_row, with_content}
use Rattle.dp_layers.specs.Changes.{has_effect, effect_on, rows_after, makes_paint_row}
use Rattle.dp_layers.specs.Tree.{IsLayerTree, IsTree}
use Rattle.dp_layers.specs.Inside.{held_by, row_with, rows_with, IsHolding}
use Rattle.dp_layers.proofs.Finding.{cond-ap}
use Rattle.dp_layers.proofs.Trees.{All-itself, id_found}
use Rattle.dp_layers.proofs.Places.{IsFirst, first_position, first_tail, missed_before, find_first}
use Rattle.dp_layers.proofs.Places.{find_none}
use Rattle.dp_layers.proofs.Layers.{map-same}
use Rattle.dp_layers.proofs.Effects.{HoldsByKind, tree-after}
use Rattle.dp_layers.proofs.Contents.{tree-none}

-- a paint row, by what is found
abbrev pub is_paint : Option LayerRow → Bool
is_paint o = option_map_or (λ row. not row.group) o false

pub nothing : {A : Type 0} (o : Option A) → is_some o ≡ false → o ≡ None
nothing None none = refl
nothing (Some x) none = absurd (false≢true (sym none))

-- what a borrow leaves, as two functions that agree
pub lent_same : {N A B : Type 0} (name : N) (F G : A → B) → ((w : A) → F w ≡ G w)
    → ◌≡◌ {A = (N × (A → B)) ⊎ B} (inl (name, F)) (inl (name, G))
lent_same name F G same = λ i. inl (name, λ w. same w i)

-- what the command makes of the rows and of what is held
pub record IsMade {X : Type 0} (contents : List (Held X)) (rows : List LayerRow) (op : Draw)
    (x : Option X) (holds : List (Held X)) (now : List LayerRow) : Type 0 where
  pub shown : rows_with holds now ≡ effect_on (rows_with contents rows) op x
  pub by_kind : (id : ℕ) → is_some (held_by holds id) ≡ is_paint_row now id
  pub fits : is_some x ≡ makes_paint_row op

module _ {X : Type 0} where
  -- ---- the rows with what is held

  pub holding_none : (rows : List LayerRow) (contents : List (Held X)) → rows ≡ []
      → contents ≡ [] → IsHolding rows contents
  holding_none rows contents left right =
      rw (left, right) (record { tree = (tree-none {X = X}).layers; by_kind = λ id. refl })

  pub layers_with : (contents : List (Held X)) (rows : List LayerRow)
      → layers_of (rows_with contents rows) ≡ rows
  layers_with contents [] = refl
  layers_with contents (r ∷ rows) = ap (λ ls. r ∷ ls) (layers_with contents rows)

  -- if the same is held for the rows' ids
  pub with_same : (holds contents : List (Held X)) (rows : List LayerRow)
      → All (λ row. held_by holds row.id ≡ held_by contents row.id) rows
      → rows_with holds rows ≡ rows_with contents rows
  with_same holds contents [] same = refl
  with_same holds contents (r ∷ rows) same =
      let P : LayerRow → Type 0 = λ row. held_by holds row.id ≡ held_by contents row.id in
      ap (λ o. record { layer = r; content = o } ∷ rows_with holds rows) (All-head P r rows same)
      ∙ ap (λ rs. row_with contents r ∷ rs)
      (with_same holds contents rows (All-tail P r rows same))

  found_with : (contents : List (Held X)) (rows : List LayerRow) (id : ℕ)
      → content_of (rows_with contents rows) id ≡ option_and_then (λ row. held_by contents row.id)
      (row_of rows id)
  found_with contents [] id = refl
  found_with contents (r ∷ rows) id = grind (arith, found_with contents rows id)

  module _ (contents : List (Held X)) (rows : List LayerRow) (inside : IsHolding rows contents)
    where
      pub content_with : (id : ℕ) → content_of (rows_with contents rows) id ≡ held_by contents id
      content_with id =
          let none = nothing (held_by contents id) in
          grind (arith, found_with contents rows id, inside.by_kind id, id_found rows id, none)

      pub tree_with : IsTree (rows_with contents rows)
      tree_with =
          let P : List LayerRow → Type 0 = λ ls. IsLayerTree ls in
          record {
            layers = subst P (sym (layers_with contents rows)) inside.tree;
            contents = All-map HoldsByKind (row_with contents) rows (λ k d in_list.
                inside.by_kind (get_or rows k d).id
                ∙ ap is_paint (All-itself rows inside.tree.distinct k d in_list));
          }

      -- the value of the tree
      module _ (value : List (Row X)) (view : rows_with contents rows ≡ value) where
        pub value_layers : layers_of value ≡ rows
        value_layers = ap layers_of (sym view) ∙ layers_with contents rows

        pub value_tree : IsTree value
        value_tree = let P : List (Row X) → Type 0 = λ rs. IsTree rs in subst P view tree_with

        pub value_content : (id : ℕ) → content_of value id ≡ held_by contents id
        value_content id = ap (λ rs. content_of rs id) (sym view) ∙ content_with id

        pub value_paint : (id : ℕ)
            → is_some (held_by contents id) ≡ is_paint_row (layers_of value) id
        value_paint id = inside.by_kind id ∙ ap (λ ls. is_paint_row ls id) (sym value_layers)

        -- the rows after a command with an effect
        module _ (op : Draw) (x : Option X) (holds : List (Held X)) (now : List LayerRow)
            (effective : has_effect (layers_of value) op ≡ true)
            (made : IsMade contents rows op x holds now) where
          pub value_after : rows_with holds now ≡ rows_after value op x
          value_after = rw effective (made.shown ∙ ap (λ rs. effect_on rs op x) view)

          pub holding_after : IsHolding now holds
          holding_after =
              let P : List LayerRow → Type 0 = λ ls. IsLayerTree ls in
              let Q : List (Row X) → Type 0 = λ rs. IsTree rs in
              let tree : IsTree (rows_with holds now) = subst Q (sym value_after)
              (tree-after value value_tree op x made.fits) in
              record { tree = subst P (layers_with holds now) tree.layers; by_kind = made.by_kind }

  -- ---- one content put in

  held_set : (contents : List (Held X)) (id place k : ℕ) (w : X)
      → IsFirst (λ held. held.id == id) contents place → k ≡ id → (y : ℕ)
      → held_by (set contents place (record { id = k; x = w })) y ≡ cond (y == id) (Some w)
      (held_by contents y)
  held_set [] id place k w first is y = absurd (let h : place < 0 = first.within in omega arith)
  held_set (h ∷ contents) id zero k w first is y = grind (arith, first.here h)
  held_set (h ∷ contents) id (suc place) k w first is y =
      let away = missed_before (λ (held : Held X). held.id == id) h contents place first in
      let tail = first_tail (λ (held : Held X). held.id == id) h contents place first in
      grind (arith, away, held_set contents id place k w tail is y)

  pub held_none : (contents : List (Held X)) (id : ℕ)
      → position (λ held. held.id == id) contents ≡ None → held_by contents id ≡ None
  held_none contents id none =
      ap (option_map (λ (held : Held X). held.x))
      (find_none (λ (held : Held X). held.id == id) contents none)

  module _ (contents : List (Held X)) (rows : List LayerRow) (inside : IsHolding rows contents)
      (id place : ℕ) (held : Held X)
      (found : position (λ held. held.id == id) contents ≡ Some place)
      (is : held ≡ get_or contents place held) where
    first : IsFirst (λ held. held.id == id) contents place
    first = first_position (λ (held : Held X). held.id == id) contents place found

    pub held_at : held_by contents id ≡ Some held.x
    held_at =
        ap (option_map (λ (held : Held X). held.x))
        (find_first (λ (held : Held X). held.id == id) contents place held first
        ∙ ap Some (sym is))

    named : held.id ≡ id
    named = ap (λ (h : Held X). h.id) is ∙ eqb-true (get_or contents place held).id id
        (first.here held)

    module _ (w : X) where
      abbrev pub filled : List (Held X)
      filled = set contents place (record { id = held.id; x = w })

      pub filled_rows : (value : List (Row X)) → rows_with contents rows ≡ value
          → rows_with filled rows ≡ with_content value id w
      filled_rows value view =
          map-same (row_with filled) (λ r. fill_row id w (row_with contents r)) (λ r.
          let row : Option X → Row X = λ o. record { layer = r; content = o } in
          ap row (held_set contents id place held.id w first named r.id)
          ∙ cond-ap row (r.id == id) (Some w) (held_by contents r.id)) rows
          ∙ sym (map-map (fill_row id w) (row_with contents) rows)
          ∙ ap (λ rs. with_content rs id w) view

      pub filled_inside : IsHolding rows filled
      filled_inside = record {
        tree = inside.tree;
        by_kind = λ y. ap is_some (held_set contents id place held.id w first named y)
            ∙ by_test (y == id)
            (λ here. let P : ℕ → Type 0 = λ z. true ≡ is_paint_row rows z in
            rw here (subst P (sym (eqb-true y id here))
            (sym (ap is_some held_at) ∙ inside.by_kind id)))
            (λ away. rw away (inside.by_kind y));
      }
