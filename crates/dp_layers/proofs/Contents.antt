-- What the paint rows hold.
use Rattle.std.proofs.Common.{◌≡◌, ◌≢◌, ◌==◌, ℕ, Bool, true, false, not, cond, List, []}
use Rattle.std.proofs.Common.{◌∷◌, map, length, get_or, Option, None, Some, refl, ap, sym, ◌∙◌}
use Rattle.std.proofs.Common.{subst, eq-eqb, ◌+◌, arith}
use Rattle.std.specs.Prelude.{is_some, All}
use Rattle.std.specs.List.{filter_map, cons_option, count_by}
use Rattle.std.specs.Option.{option_map}
use Rattle.std.proofs.lemmas.Bool.{ne_eqb, eqb-true, cond_both, false≢true, true≢false}
use Rattle.std.proofs.lemmas.List.Sums.{sum_by-cons}
use Rattle.std.proofs.lemmas.List.Elements.{All-head, All-tail, All-cons, All-nil, All-map}
use Rattle.dp_layers.proofs.Finding.{by_test}
use Rattle.dp_layers.specs.declared.row.LayerRow.{LayerRow}
use Rattle.dp_layers.specs.Layers.{row_of, is_paint_row}
use Rattle.dp_layers.specs.Rows.{Row, layers_of, contents_of, content_of, fill_row, with_content}
use Rattle.dp_layers.specs.Rows.{map_content, map_contents}
use Rattle.dp_layers.specs.Tree.{IsLayerTree, IsTree}
use Rattle.dp_layers.proofs.Finding.{AreDistinct, AreDistinct-none, AreDistinct-tail}
use Rattle.dp_layers.proofs.Places.{absent-rest}
use Rattle.dp_layers.proofs.Trees.{All-itself}
use Rattle.std.proofs.lemmas.Simd.{map-map}
use Rattle.dp_layers.proofs.Layers.{map-same, fill-absent}
use Rattle.dp_layers.proofs.Effects.{HoldsByKind}

-- the tree without rows
pub tree-none : {X : Type 0} → IsTree {X = X} []
tree-none {X} = record {
  layers = record {
    distinct = AreDistinct-none;
    numbered = All-nil (λ row. row.id ≢ 0);
    parents = All-nil {X = LayerRow} (λ row. _);
    apart = All-nil {X = LayerRow} (λ row. _);
    within = All-nil {X = LayerRow} (λ row. _);
    few = omega arith;
    modes = All-nil {X = LayerRow} (λ row. _);
  };
  contents = All-nil {X = Row X} (λ row. _);
}

-- two functions that agree at each item
filter_map-agree : {A B : Type 0} (g h : A → Option B) (xs : List A) → All (λ x. g x ≡ h x) xs
    → filter_map g xs ≡ filter_map h xs
filter_map-agree g h [] each = refl
filter_map-agree {A} g h (x ∷ xs) each =
    let P : A → Type 0 = λ y. g y ≡ h y in
    grind (arith, All-head P x xs each, filter_map-agree g h xs (All-tail P x xs each))

module _ {X : Type 0} where
  -- x put into a paint row
  kinds-filled : (rows : List (Row X)) (id : ℕ) (x : X) → AreDistinct (layers_of rows)
      → is_paint_row (layers_of rows) id ≡ true → All HoldsByKind rows
      → All HoldsByKind (with_content rows id x)
  kinds-filled [] id x distinct paint each = each
  kinds-filled (r ∷ rows) id x distinct paint each =
      let P : List (Row X) → Type 0 = λ rs. All HoldsByKind rs in
      let rest = All-tail HoldsByKind r rows each in
      by_test (r.layer.id == id)
      (λ here.
      let absent : row_of (layers_of rows) id ≡ None = absent-rest r.layer (layers_of rows) id
      distinct (eqb-true r.layer.id id here) in
      let is : with_content (r ∷ rows) id x ≡ record r { content = Some x } ∷ rows = rw here
      (ap (λ rs. record r { content = Some x } ∷ rs) (fill-absent id x rows absent)) in
      subst P (sym is) (All-cons HoldsByKind (record r { content = Some x }) rows
      (sym (rw here at paint)) rest))
      (λ missed.
      let is : with_content (r ∷ rows) id x ≡ r ∷ with_content rows id x = rw missed refl in
      subst P (sym is)
      (All-cons HoldsByKind r (with_content rows id x) (All-head HoldsByKind r rows each)
      (kinds-filled rows id x (AreDistinct-tail r.layer (layers_of rows) distinct)
      (rw missed at paint) rest)))

  pub layers_of-filled : (rows : List (Row X)) (id : ℕ) (x : X)
      → layers_of (with_content rows id x) ≡ layers_of rows
  layers_of-filled rows id x =
      map-map (λ (r : Row X). r.layer) (fill_row id x) rows
      ∙ map-same (λ r. (fill_row id x r).layer) (λ (r : Row X). r.layer)
      (λ r. cond_both (r.layer.id == id) (record r { content = Some x }) r
      (λ (q : Row X). q.layer ≡ r.layer) (λ _. refl) (λ _. refl)) rows

  pub tree-filled : (rows : List (Row X)) (id : ℕ) (x : X) → IsTree rows
      → is_paint_row (layers_of rows) id ≡ true → IsTree (with_content rows id x)
  tree-filled rows id x tree paint =
      let P : List LayerRow → Type 0 = λ ls. IsLayerTree ls in
      record {
        layers = subst P (sym (layers_of-filled rows id x)) tree.layers;
        contents = kinds-filled rows id x tree.layers.distinct paint tree.contents;
      }

  -- ---- the contents mapped

  module _ {Y : Type 0} (f : X → Y) where
    pub layers_of-mapped : (rows : List (Row X)) → layers_of (map_contents f rows) ≡ layers_of rows
    layers_of-mapped rows = map-map (λ (r : Row Y). r.layer) (map_content f) rows

    pub filled-mapped : (rows : List (Row X)) (id : ℕ) (x : X)
        → map_contents f (with_content rows id x) ≡ with_content (map_contents f rows) id (f x)
    filled-mapped rows id x = grind (arith, map-map)

    pub content-mapped : (rows : List (Row X)) (id : ℕ)
        → content_of (map_contents f rows) id ≡ option_map f (content_of rows id)
    content-mapped [] id = refl
    content-mapped (r ∷ rows) id = grind (arith, content-mapped rows id)

    pub contents-mapped : (rows : List (Row X))
        → contents_of (map_contents f rows) ≡ map f (contents_of rows)
    contents-mapped [] = refl
    contents-mapped (r ∷ rows) = grind (arith, contents-mapped rows)

    pub tree-mapped_contents : (rows : List (Row X)) → IsTree rows → IsTree (map_contents f rows)
    tree-mapped_contents rows tree =
        let P : List LayerRow → Type 0 = λ ls. IsLayerTree ls in
        record {
          layers = subst P (sym (layers_of-mapped rows)) tree.layers;
          contents = All-map HoldsByKind (map_content f) rows
              (λ k d in_list. some (get_or rows k d).content ∙ tree.contents k d in_list);
        }
      where
        some : (o : Option X) → is_some (option_map f o) ≡ is_some o
        some None = refl
        some (Some x) = refl

  -- ---- the contents in order

  -- the rows and what the paint rows hold, in order, fix the tree
  pub same_tree : (a b : List (Row X)) → All HoldsByKind a → All HoldsByKind b
      → layers_of a ≡ layers_of b → contents_of a ≡ contents_of b → a ≡ b
  same_tree [] [] left right same contents = refl
  same_tree [] (s ∷ b) left right same contents =
      absurd (let e : ◌≡◌ {A = List LayerRow} [] (s.layer ∷ layers_of b) = same in cc)
  same_tree (r ∷ a) [] left right same contents =
      absurd (let e : ◌≡◌ {A = List LayerRow} (r.layer ∷ layers_of a) [] = same in cc)
  same_tree (r ∷ a) (s ∷ b) left right same contents =
      let layer : r.layer ≡ s.layer = (let e : r.layer ∷ layers_of a ≡ s.layer ∷ layers_of b = same
      in cc) in
      let layers : layers_of a ≡ layers_of
      b = (let e : r.layer ∷ layers_of a ≡ s.layer ∷ layers_of b = same in cc) in
      let kind : is_some r.content ≡ is_some s.content = All-head HoldsByKind r a left
      ∙ ap (λ l. not l.group) layer ∙ sym (All-head HoldsByKind s b right) in
      let parts = first r.content s.content kind contents in
      λ i. record { layer = layer i; content = parts.0 i } ∷ same_tree a b
      (All-tail HoldsByKind r a left) (All-tail HoldsByKind s b right) layers parts.1 i
    where
      first : (o p : Option X) → is_some o ≡ is_some p
          → cons_option o (contents_of a) ≡ cons_option p (contents_of b)
          → (o ≡ p) × (contents_of a ≡ contents_of b)
      first None None kind is = (refl, is)
      first None (Some y) kind is = absurd (false≢true kind)
      first (Some x) None kind is = absurd (true≢false kind)
      first (Some x) (Some y) kind is = (ap Some (head x y is), tail x y is)
        where
          head : (x y : X) → x ∷ contents_of a ≡ y ∷ contents_of b → x ≡ y
          head x y e = cc

          tail : (x y : X) → x ∷ contents_of a ≡ y ∷ contents_of b → contents_of a ≡ contents_of b
          tail x y e = cc

  -- ---- the contents by the rows

  -- what they hold is what the rows' ids lead to, in order
  pub contents-by_id : (rows : List (Row X)) → AreDistinct (layers_of rows)
      → contents_of rows ≡ filter_map (λ l. content_of rows l.id) (layers_of rows)
  contents-by_id [] distinct = refl
  contents-by_id (r ∷ rows) distinct =
      let first : content_of (r ∷ rows) r.layer.id ≡ r.content = rw
      (eq-eqb r.layer.id r.layer.id refl) refl in
      ap (cons_option r.content)
      (contents-by_id rows (AreDistinct-tail r.layer (layers_of rows) distinct)
      ∙ filter_map-agree (λ l. content_of rows l.id) (λ l. content_of (r ∷ rows) l.id)
      (layers_of rows) (λ k d in_list.
      later (get_or (layers_of rows) k d)
      (All-itself (layers_of rows) (AreDistinct-tail r.layer (layers_of rows) distinct) k d
      in_list)))
      ∙ ap (λ o. cons_option o (filter_map (λ l. content_of (r ∷ rows) l.id) (layers_of rows)))
      (sym first)
    where
      later : (l : LayerRow) → row_of (layers_of rows) l.id ≡ Some l
          → content_of rows l.id ≡ content_of (r ∷ rows) l.id
      later l found =
          let away : (r.layer.id == l.id) ≡ false = ne_eqb r.layer.id l.id
          (λ (e : r.layer.id ≡ l.id).
          absurd (let f : ◌≡◌ {A = Option LayerRow} None (Some l) = sym
          (absent-rest r.layer (layers_of rows) l.id distinct e) ∙ found in cc)) in
          rw away refl

  -- there are as many as paint rows
  pub length-contents : (rows : List (Row X)) → All HoldsByKind rows
      → length (contents_of rows) ≡ count_by (λ l. not l.group) (layers_of rows)
  length-contents [] each = refl
  length-contents (r ∷ rows) each =
      more r.content r.layer.group (All-head HoldsByKind r rows each)
      ∙ ap (λ n. cond (not r.layer.group) 1 0 + n)
      (length-contents rows (All-tail HoldsByKind r rows each))
      ∙ sym (sum_by-cons (λ (l : LayerRow). cond (not l.group) 1 0) r.layer (layers_of rows))
    where
      more : (o : Option X) (group : Bool) → is_some o ≡ not group
          → length (cons_option o (contents_of rows)) ≡ cond (not group) 1 0 + length
          (contents_of rows)
      more None true h = omega arith
      more None false h = absurd (false≢true h)
      more (Some x) true h = absurd (true≢false h)
      more (Some x) false h = omega arith
