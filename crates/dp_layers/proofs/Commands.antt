-- What the commands make of the rows, and of what is held.
use Rattle.std.proofs.Common.{arith, ◌≡◌, ◌==◌, ◌&&◌, ℕ, Bool, true, false, not, cond, List, []}
use Rattle.std.proofs.Common.{◌∷◌, ◌++◌, map, get_or, Option, None, Some, refl, ap, sym, ◌∙◌, subst}
use Rattle.std.proofs.Common.{eq-eqb}
use Rattle.std.specs.Prelude.{is_some, All}
use Rattle.std.specs.List.{find, filter, IsDistinct}
use Rattle.std.specs.Option.{option_map}
use Rattle.std.proofs.lemmas.Bool.{ne_eqb, false≢true}
use Rattle.std.proofs.lemmas.List.{map-append}
use Rattle.std.proofs.lemmas.List.Folds.{find-append}
use Rattle.std.proofs.lemmas.List.Elements.{All-head, All-tail}
use Rattle.std.proofs.lemmas.Simd.{map-map}
use Rattle.std.proofs.Math.Bool.{and-true}
use Rattle.dp_msg_draw.specs.declared.draw.Draw.{Draw}
use Rattle.dp_msg_draw.specs.declared.draw.Draw.TheVariants.{LayerCreate, LayerAttr, LayerTitle}
use Rattle.dp_msg_draw.specs.declared.draw.Draw.TheVariants.{LayerMove, LayerDelete}
use Rattle.dp_layers.proofs.Finding.{by_test}
use Rattle.dp_layers.specs.declared.row.LayerRow.{LayerRow}
use Rattle.dp_layers.specs.declared.held.Held.{Held}
use Rattle.dp_layers.specs.Layers.{has_id, row_of, has_row, is_paint_row, is_in}
use Rattle.dp_layers.specs.Rows.{Row}
use Rattle.dp_layers.specs.Changes.{change_row, with_layer, rows_changed, set_attr, set_title}
use Rattle.dp_layers.specs.Changes.{set_parent, can_move, new_row, created, deleted, placed}
use Rattle.dp_layers.specs.Changes.{has_effect, effect_on, makes_paint_row}
use Rattle.dp_layers.specs.Inside.{held_by, row_with, rows_with, IsHolding, holding, gone_ids}
use Rattle.dp_layers.specs.Inside.{is_gone, IsRearranging, rearranged}
use Rattle.dp_layers.proofs.Finding.{AreDistinct, cond-ap, row_of-map, row_of-filter, row_of-push}
use Rattle.dp_layers.proofs.Finding.{found_kept}
use Rattle.dp_layers.proofs.Placing.{IsPlace, filter-map, placed-map, row_of-placed}
use Rattle.dp_layers.proofs.Trees.{ids_of-map, All-present, All-kept}
use Rattle.dp_layers.proofs.Layers.{map-same}
use Rattle.dp_layers.proofs.Effects.{change-id, change-group, place_after, move_parts}
use Rattle.dp_layers.proofs.Effects.{absent_created}
use Rattle.dp_layers.proofs.Holding.{is_paint, nothing, layers_with, with_same, IsMade}

-- ---- the row with its new parent may be put in its place

pub record IsReady (rows : List LayerRow) (id above : ℕ) : Type 0 where
  pub distinct : AreDistinct rows
  pub present : has_row rows id ≡ true
  pub place : IsPlace rows id above

still : {A B : Type 0} (f : A → B) (o : Option A) → is_some (option_map f o) ≡ is_some o
still f None = refl
still f (Some x) = refl

pub ready_moved : (rows : List LayerRow) (id parent above : ℕ) → AreDistinct rows
    → can_move rows id parent above ≡ true
    → IsReady (map (change_row id (set_parent parent)) rows) id above
ready_moved rows id parent above distinct can =
    let f : LayerRow → LayerRow = change_row id (set_parent parent) in
    let keeps = change-id id (set_parent parent) (λ _. refl) in
    let parts = move_parts rows id parent above can in
    record {
      distinct = (let P : List ℕ → Type 0 = λ is. IsDistinct ◌==◌ is in
          subst P (sym (ids_of-map f keeps (change-group id (set_parent parent) (λ _. refl)) rows
          rows)) distinct);
      present = ap is_some (row_of-map f keeps id rows) ∙ still f (row_of rows id) ∙ parts.present;
      place = place_after f keeps rows id above parts.place;
    }

-- ---- LayerAttr, LayerTitle and LayerMove

module _ (id : ℕ) (change : LayerRow → LayerRow) (keeps_id : (row : LayerRow)
    → (change row).id ≡ row.id) (keeps_group : (row : LayerRow)
    → (change row).group ≡ row.group) where
  changed_with : {X : Type 0} (contents : List (Held X)) (rows : List LayerRow)
      → rows_with contents (map (change_row id change) rows)
      ≡ rows_changed (rows_with contents rows) id change
  changed_with {X} contents rows =
      map-map (row_with contents) (change_row id change) rows
      ∙ map-same (λ r. row_with contents (change_row id change r))
      (λ r. with_layer (row_with contents r) (change_row id change r))
      (λ r. (let row : ℕ → Row X = λ i. record {
        layer = change_row id change r;
        content = held_by contents i;
      } in ap row (change-id id change keeps_id r))) rows
      ∙ sym (map-map (λ (r : Row X). with_layer r (change_row id change r.layer))
      (row_with contents) rows)

  changed_paint : (rows : List LayerRow) (y : ℕ)
      → is_paint_row (map (change_row id change) rows) y ≡ is_paint_row rows y
  changed_paint rows y =
      let ids = change-id id change keeps_id in
      grind (arith, row_of-map (change_row id change) ids y rows, keeps_group)

rearranged_with : {X : Type 0} (contents : List (Held X)) (rows : List LayerRow) (op : Draw)
    (x : Option X) → IsRearranging op
    → rows_with contents (rearranged rows op) ≡ effect_on (rows_with contents rows) op x
rearranged_with contents rows (LayerAttr id opacity mode hidden) x kind =
    changed_with id (set_attr opacity mode hidden) (λ _. refl) (λ _. refl) contents rows
rearranged_with contents rows (LayerTitle id title) x kind =
    changed_with id (set_title title) (λ _. refl) (λ _. refl) contents rows
rearranged_with {X} contents rows (LayerMove id parent above) x kind =
    sym (placed-map (row_with contents) (λ i (r : Row X). has_id i r.layer)
    (map (change_row id (set_parent parent)) rows) id above)
    ∙ ap (λ rs. placed (λ i (r : Row X). has_id i r.layer) rs id above)
    (changed_with id (set_parent parent) (λ _. refl) (λ _. refl) contents rows)
rearranged_with contents rows _ x kind = absurd kind

rearranged_paint : (rows : List LayerRow) (op : Draw) → IsRearranging op
    → has_effect rows op ≡ true → (y : ℕ)
    → is_paint_row (rearranged rows op) y ≡ is_paint_row rows y
rearranged_paint rows (LayerAttr id opacity mode hidden) kind can y =
    changed_paint id (set_attr opacity mode hidden) (λ _. refl) (λ _. refl) rows y
rearranged_paint rows (LayerTitle id title) kind can y =
    changed_paint id (set_title title) (λ _. refl) (λ _. refl) rows y
rearranged_paint rows (LayerMove id parent above) kind can y =
    ap is_paint (row_of-placed (map (change_row id (set_parent parent)) rows) id above
    (place_after (change_row id (set_parent parent)) (change-id id (set_parent parent) (λ _. refl))
    rows id above (move_parts rows id parent above can).place) y)
    ∙ changed_paint id (set_parent parent) (λ _. refl) (λ _. refl) rows y
rearranged_paint rows _ kind can y = absurd kind

makes_none : (op : Draw) → IsRearranging op → false ≡ makes_paint_row op
makes_none (LayerAttr id opacity mode hidden) kind = refl
makes_none (LayerTitle id title) kind = refl
makes_none (LayerMove id parent above) kind = refl
makes_none _ kind = absurd kind

pub made_rearranged : {X : Type 0} (contents : List (Held X)) (rows : List LayerRow)
    → IsHolding rows contents → (op : Draw) → IsRearranging op → has_effect rows op ≡ true
    → (now : List LayerRow) → now ≡ rearranged rows op → IsMade contents rows op None contents now
made_rearranged contents rows inside op kind can now is =
    rw is (record {
      shown = rearranged_with contents rows op None kind;
      by_kind = λ y. inside.by_kind y ∙ sym (rearranged_paint rows op kind can y);
      fits = makes_none op kind;
    })

-- ---- LayerCreate

module _ {X : Type 0} (contents : List (Held X)) (rows : List LayerRow)
    (inside : IsHolding rows contents) (row : LayerRow) (absent : row_of rows row.id ≡ None) where
  held_more : (x : Option X) (y : ℕ)
      → held_by (contents ++ holding row.id x) y ≡ cond (row.id == y) x (held_by contents y)
  held_more x y = grind (arith, find-append, inside.by_kind row.id, nothing)

  created_with : (x : Option X)
      → rows_with (contents ++ holding row.id x) (rows ++ row ∷ [])
      ≡ created (rows_with contents rows) row x
  created_with x =
      let holds : List (Held X) = contents ++ holding row.id x in
      let last : held_by holds row.id ≡ x = held_more x row.id
      ∙ rw (eq-eqb row.id row.id refl) refl in
      map-append (row_with holds) rows (row ∷ [])
      ∙ ap (λ rs. rs ++ row_with holds row ∷ []) (with_same holds contents rows (λ k d in_list.
      held_more x (get_or rows k d).id
      ∙ rw (ne_eqb row.id (get_or rows k d).id (λ e.
      let P : ℕ → Type 0 = λ y. row_of rows y ≡ None in
      false≢true (sym (ap is_some (subst P e absent)) ∙ All-present rows k d in_list))) refl))
      ∙ ap (λ o. rows_with contents rows ++ record { layer = row; content = o } ∷ []) last

  created_paint : (x : Option X) → is_some x ≡ not row.group → (y : ℕ)
      → is_some (held_by (contents ++ holding row.id x) y) ≡ is_paint_row (rows ++ row ∷ []) y
  created_paint x fits y =
      grind (arith, held_more x y, row_of-push rows row y absent, inside.by_kind y)

pub made_created : {X : Type 0} (contents : List (Held X)) (rows : List LayerRow)
    → IsHolding rows contents → (id parent : ℕ) (group : Bool) (title : List ℕ) (x : Option X)
    → has_effect rows (LayerCreate id parent group title) ≡ true → is_some x ≡ not group
    → (row : LayerRow) → row ≡ new_row id parent group title
    → (holds : List (Held X)) → holds ≡ contents ++ holding row.id x
    → (now : List LayerRow) → now ≡ rows ++ row ∷ []
    → IsMade contents rows (LayerCreate id parent group title) x holds now
made_created contents rows inside id parent group title x can fits row is holds right now left =
    let new : LayerRow = new_row id parent group title in
    let absent = absent_created rows id parent can in
    rw (left, right, is) (record {
      shown = created_with contents rows inside new absent x;
      by_kind = created_paint contents rows inside new absent x fits;
      fits = fits;
    })

-- ---- LayerDelete

-- the ids of the rows that pass a test
gone_is : (test : ℕ → Bool) (rows : List LayerRow) (x : ℕ)
    → is_gone (map (λ row. row.id) (filter (λ row. test row.id) rows)) x
    ≡ (test x && has_row rows x)
gone_is test [] x =
    by_test (test x)
    (λ yes. rw yes refl)
    (λ no. rw no refl)
gone_is test (r ∷ rows) x = grind (arith, gone_is test rows x)

filter_agree : (p q : LayerRow → Bool) (rows : List LayerRow) → All (λ row. p row ≡ q row) rows
    → filter p rows ≡ filter q rows
filter_agree p q [] same = refl
filter_agree p q (r ∷ rows) same =
    let P : LayerRow → Type 0 = λ row. p row ≡ q row in
    grind (arith, All-head P r rows same, filter_agree p q rows (All-tail P r rows same))

-- what is held for ids that pass a test
held_kept : {X : Type 0} (keep : ℕ → Bool) (contents : List (Held X)) (y : ℕ)
    → held_by (filter (λ held. keep held.id) contents) y ≡ cond (keep y) (held_by contents y) None
held_kept {X} keep contents y =
    ap (option_map (λ (h : Held X). h.x)) (found_kept keep (λ (h : Held X). h.id) y contents)
    ∙ cond-ap (option_map (λ (h : Held X). h.x)) (keep y) (find (λ h. h.id == y) contents) None

module _ {X : Type 0} (contents : List (Held X)) (rows : List LayerRow)
    (inside : IsHolding rows contents) (id : ℕ) where
  abbrev keep : ℕ → Bool
  keep y = not (is_gone (gone_ids rows id) y)

  abbrev holds : List (Held X)
  holds = filter (λ held. keep held.id) contents

  abbrev left : List LayerRow
  left = filter (λ row. keep row.id) rows

  deleted_with : rows_with holds left ≡ deleted (rows_with contents rows) id
  deleted_with =
      with_same holds contents left (All-kept (λ row. held_by holds row.id ≡ held_by contents
      row.id)
      (λ row. keep row.id) rows (λ k d in_list kept.
      held_kept keep contents (get_or rows k d).id ∙ rw kept refl))
      ∙ ap (rows_with contents) (filter_agree (λ row. keep row.id)
      (λ row. not (is_in rows row.id id)) rows (λ k d in_list.
      ap not (gone_is (λ y. is_in rows y id) rows (get_or rows k d).id
      ∙ ap (λ b. is_in rows (get_or rows k d).id id && b) (All-present rows k d in_list)
      ∙ and-true (is_in rows (get_or rows k d).id id))))
      ∙ sym (filter-map (row_with contents) (λ (r : Row X). not (is_in rows r.layer.id id)) rows)
      ∙ ap (λ ls. filter (λ (r : Row X). not (is_in ls r.layer.id id)) (rows_with contents rows))
      (sym (layers_with contents rows))

  deleted_paint : (y : ℕ) → is_some (held_by holds y) ≡ is_paint_row left y
  deleted_paint y =
      grind (arith, held_kept keep contents y, row_of-filter keep y rows, inside.by_kind y)

pub made_deleted : {X : Type 0} (contents : List (Held X)) (rows : List LayerRow)
    → IsHolding rows contents → (id : ℕ) (gone : List ℕ) → gone ≡ gone_ids rows id
    → (holds : List (Held X)) → holds ≡ filter (λ held. not (is_gone gone held.id)) contents
    → (now : List LayerRow) → now ≡ filter (λ row. not (is_gone gone row.id)) rows
    → IsMade contents rows (LayerDelete id) None holds now
made_deleted contents rows inside id gone is holds right now left =
    rw (left, right, is) (record {
      shown = deleted_with contents rows inside id;
      by_kind = deleted_paint contents rows inside id;
      fits = refl;
    })
