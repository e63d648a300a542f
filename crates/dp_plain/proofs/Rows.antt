-- Rows with what they hold: what is found at an id, and what maps of rows leave.
use Rattle.std.proofs.Common.{◌≡◌, ◌==◌, ℕ, ◌<◌, Bool, true, false, not, cond, List, [], ◌∷◌, map}
use Rattle.std.proofs.Common.{length}
use Rattle.std.proofs.Common.{get_or, Option, None, Some, refl, ap, sym, ◌∙◌, subst, ⊎_elim, eq-eqb}
use Rattle.std.specs.Prelude.{is_some, option_map, All}
use Rattle.std.specs.List.{IsDistinct, cons_option}
use Rattle.std.proofs.lemmas.Bool.{cond_both, cases_Bool, eqb-true}
use Rattle.std.proofs.lemmas.Option.{none-some}
use Rattle.std.proofs.lemmas.List.{length-map, get_or-map}
use Rattle.std.proofs.lemmas.List.Elements.{All-nil, All-cons, All-head, All-tail, All-map}
use Rattle.std.proofs.lemmas.List.Elements.{All-from_recursion}
use Rattle.std.proofs.lemmas.Map.Keys.{IsDistinct-head, IsDistinct-tail}
use Rattle.std.proofs.lemmas.List.Folds.{map_fixed}
use Rattle.std.proofs.lemmas.Simd.{map-map}
use Rattle.dp_blend.specs.Color.{Channels}
use Rattle.dp_layers.specs.declared.row.LayerRow.{LayerRow}
use Rattle.dp_layers.specs.Rows.{Row, layers_of, contents_of, content_of, fill_row, with_content}
use Rattle.dp_layers.specs.Rows.{map_content, map_contents}
use Rattle.dp_layers.specs.Tree.{IsLayerTree, IsTree}
use Rattle.dp_plain.specs.Commands.{with_change}

-- ---- maps

pub map-each : {A B : Type 0} (f g : A → B) (xs : List A) → All (λ x. f x ≡ g x) xs
    → map f xs ≡ map g xs
map-each f g [] each = refl
map-each {A} f g (x ∷ xs) each =
    let P : A → Type 0 = λ y. f y ≡ g y in
    ap (λ y. y ∷ map f xs) (All-head P x xs each)
    ∙ ap (λ ys. g x ∷ ys) (map-each f g xs (All-tail P x xs each))

cond-same : {A : Type 0} (b : Bool) (x y z : A) → (b ≡ true → x ≡ y) → cond b x z ≡ cond b y z
cond-same true x y z same = same refl
cond-same false x y z same = refl

-- ---- rows that keep their layers

pub layers_of-map : {X Y : Type 0} (f : Row X → Row Y) → ((row : Row X) → (f row).layer ≡ row.layer)
    → (rows : List (Row X))
    → layers_of (map f rows) ≡ layers_of rows
layers_of-map f same [] = refl
layers_of-map f same (row ∷ rows) =
    ap (λ (l : LayerRow). l ∷ layers_of (map f rows)) (same row)
    ∙ ap (λ ls. row.layer ∷ ls) (layers_of-map f same rows)

pub tree_mapped : {X Y : Type 0} (f : Row X → Row Y) → ((row : Row X) → (f row).layer ≡ row.layer)
    → ((row : Row X) → is_some (f row).content ≡ is_some row.content) → (rows : List (Row X))
    → IsTree rows → IsTree (map f rows)
tree_mapped {X} {Y} f same kind rows tree =
    let P : List LayerRow → Type 0 = λ ls. IsLayerTree ls in
    record {
      layers = subst P (sym (layers_of-map f same rows)) tree.layers;
      contents = All-map (λ (row : Row Y). is_some row.content ≡ not row.layer.group) f rows
          (λ k d in_list. kind (get_or rows k d) ∙ tree.contents k d in_list
          ∙ ap (λ l. not l.group) (sym (same (get_or rows k d))));
    }

pub some_mapped : {X Y : Type 0} (f : X → Y) (o : Option X) → is_some (option_map f o) ≡ is_some o
some_mapped f None = refl
some_mapped f (Some x) = refl

-- what f makes of each content
pub tree_of_contents : {X Y : Type 0} (f : X → Y) (rows : List (Row X)) → IsTree rows
    → IsTree (map_contents f rows)
tree_of_contents f rows tree = tree_mapped (map_content f) (λ row. refl)
    (λ row. some_mapped f row.content) rows tree

pub content_of-mapped : {X Y : Type 0} (f : X → Y) (rows : List (Row X)) (id : ℕ)
    → content_of (map_contents f rows) id ≡ option_map f (content_of rows id)
content_of-mapped f [] id = refl
content_of-mapped f (row ∷ rows) id =
    ⊎_elim (λ (here : (row.layer.id == id) ≡ true). rw here refl)
    (λ (missed : (row.layer.id == id) ≡ false). rw missed (content_of-mapped f rows id))
    (cases_Bool (row.layer.id == id))

cons_mapped : {X Y : Type 0} (f : X → Y) (o : Option X) (xs : List X)
    → map f (cons_option o xs) ≡ cons_option (option_map f o) (map f xs)
cons_mapped f None xs = refl
cons_mapped f (Some x) xs = refl

pub contents_of-mapped : {X Y : Type 0} (f : X → Y) (rows : List (Row X))
    → contents_of (map_contents f rows) ≡ map f (contents_of rows)
contents_of-mapped f [] = refl
contents_of-mapped f (row ∷ rows) =
    ap (cons_option (option_map f row.content)) (contents_of-mapped f rows)
    ∙ sym (cons_mapped f row.content (contents_of rows))

-- ---- what is found at an id

-- ids are different
abbrev pub HaveIds : {X : Type 0} → List (Row X) → Type 0
HaveIds rows = IsDistinct ◌==◌ (map (λ l. l.id) (layers_of rows))

-- what each row holds is found at its id
pub content_itself : {X : Type 0} (rows : List (Row X)) → HaveIds rows
    → All (λ row. content_of rows row.layer.id ≡ row.content) rows
content_itself {X} [] distinct = All-nil (λ (row : Row X). content_of [] row.layer.id ≡ row.content)
content_itself {X} (row ∷ rows) distinct =
    let ids : List ℕ = map (λ l. l.id) (layers_of rows) in
    let others = All-from_recursion (λ id. (row.layer.id == id) ≡ false) ids
    (IsDistinct-head ◌==◌ row.layer.id ids distinct) in
    let rest = content_itself rows (IsDistinct-tail ◌==◌ row.layer.id ids distinct) in
    let first : (row.layer.id == row.layer.id) ≡ true = eq-eqb row.layer.id row.layer.id refl in
    All-cons (λ (q : Row X). content_of (row ∷ rows) q.layer.id ≡ q.content) row rows
    (rw first refl)
    (λ k d in_list.
    let at : get_or ids k d.layer.id ≡ (get_or rows k d).layer.id =
    ap (λ is. get_or is k d.layer.id)
    (map-map (λ (l : LayerRow). l.id) (λ (q : Row X). q.layer) rows)
    ∙ get_or-map (λ (q : Row X). q.layer.id) rows k d d.layer.id in_list in
    let count : length ids ≡ length rows = length-map (layers_of rows) (λ l. l.id)
    ∙ length-map rows (λ (q : Row X). q.layer) in
    let P : ℕ → Type 0 = λ id. (row.layer.id == id) ≡ false in
    let away : (row.layer.id == (get_or rows k d).layer.id) ≡ false = subst P at
    (others k d.layer.id (subst (λ n. k < n) (sym count) in_list)) in
    rw away (rest k d in_list))

-- if the row of an id holds x, so does each row of the id
held_at : {X : Type 0} (rows : List (Row X)) (id : ℕ) (o : Option X) → HaveIds rows
    → content_of rows id ≡ o
    → All (λ row. (row.layer.id == id) ≡ true → row.content ≡ o) rows
held_at rows id o distinct found = λ k d in_list here.
    sym (content_itself rows distinct k d in_list)
    ∙ ap (content_of rows) (eqb-true (get_or rows k d).layer.id id here) ∙ found

-- ---- x put into the row of an id

-- what f makes of x
pub filled-mapped : {X Y : Type 0} (f : X → Y) (rows : List (Row X)) (id : ℕ) (x : X)
    → map_contents f (with_content rows id x) ≡ with_content (map_contents f rows) id (f x)
filled-mapped {X} {Y} f rows id x =
    map-map (map_content f) (fill_row id x) rows
    ∙ map-each (λ row. map_content f (fill_row id x row))
    (λ row. fill_row id (f x) (map_content f row))
    rows (λ k d in_list. one (get_or rows k d))
    ∙ sym (map-map (fill_row id (f x)) (map_content f) rows)
  where
    through : (b : Bool) (p q : Row X)
        → map_content f (cond b p q) ≡ cond b (map_content f p) (map_content f q)
    through true p q = refl
    through false p q = refl

    one : (row : Row X) → map_content f (fill_row id x row) ≡ fill_row id (f x) (map_content f row)
    one row = through (row.layer.id == id) (record row { content = Some x }) row

-- what the row holds is put back
pub filled_same : {X : Type 0} (rows : List (Row X)) (id : ℕ) (x : X) → HaveIds rows
    → content_of rows id ≡ Some x
    → with_content rows id x ≡ rows
filled_same {X} rows id x distinct found =
    map_fixed (fill_row id x) rows
    (λ k d in_list. one (get_or rows k d) (held_at rows id (Some x) distinct found k d in_list))
  where
    one : (row : Row X) → ((row.layer.id == id) ≡ true → row.content ≡ Some x)
        → fill_row id x row ≡ row
    one row held =
        cond_both (row.layer.id == id) (record row { content = Some x }) row
        (λ (q : Row X). q ≡ row)
        (λ here. ap (λ (o : Option X). record row { content = o }) (sym (held here))) (λ _. refl)

-- x is found if it was put
pub filled_found : {X : Type 0} (rows : List (Row X)) (id : ℕ) (old x : X)
    → content_of rows id ≡ Some old → content_of (with_content rows id x) id ≡ Some x
filled_found [] id old x found = absurd (none-some old found)
filled_found {X} (row ∷ rows) id old x found =
    ⊎_elim (λ (here : (row.layer.id == id) ≡ true). rw (here, here) refl)
    (λ (missed : (row.layer.id == id) ≡ false).
    rw (missed, missed) (filled_found rows id old x (rw missed at found)))
    (cases_Bool (row.layer.id == id))

-- what the row held is put back
pub filled_back : {X : Type 0} (rows : List (Row X)) (id : ℕ) (old x : X) → HaveIds rows
    → content_of rows id ≡ Some old
    → with_content (with_content rows id x) id old ≡ rows
filled_back {X} rows id old x distinct found =
    map-map (fill_row id old) (fill_row id x) rows
    ∙ map-each (λ row. fill_row id old (fill_row id x row)) (fill_row id old) rows
    (λ k d in_list. one (get_or rows k d))
    ∙ filled_same rows id old distinct found
  where
    one : (row : Row X) → fill_row id old (fill_row id x row) ≡ fill_row id old row
    one row =
        ⊎_elim (λ (here : (row.layer.id == id) ≡ true). rw (here, here) refl)
        (λ (missed : (row.layer.id == id) ≡ false). rw (missed, missed) refl)
        (cases_Bool (row.layer.id == id))

-- ---- a change of the pixels in the row of an id

module _ (id : ℕ) (change : List Channels → List Channels) where
  change-layer : (row : Row (List Channels)) → (with_change id change row).layer ≡ row.layer
  change-layer row =
      cond_both (row.layer.id == id) (record row { content = option_map change row.content }) row
      (λ (q : Row (List Channels)). q.layer ≡ row.layer) (λ _. refl) (λ _. refl)

  change-kind : (row : Row (List Channels))
      → is_some (with_change id change row).content ≡ is_some row.content
  change-kind row =
      cond_both (row.layer.id == id) (record row { content = option_map change row.content }) row
      (λ (q : Row (List Channels)). is_some q.content ≡ is_some row.content)
      (λ _. some_mapped change row.content) (λ _. refl)

  pub tree_changed : (rows : List (Row (List Channels))) → IsTree rows
      → IsTree (map (with_change id change) rows)
  tree_changed rows tree = tree_mapped (with_change id change) change-layer change-kind rows tree

  -- if no paint row has the id, no row changes
  pub changed_none : (rows : List (Row (List Channels))) → HaveIds rows → content_of rows id ≡ None
      → map (with_change id change) rows ≡ rows
  changed_none rows distinct none =
      map_fixed (with_change id change) rows
      (λ k d in_list. one (get_or rows k d) (held_at rows id None distinct none k d in_list))
    where
      one : (row : Row (List Channels)) → ((row.layer.id == id) ≡ true → row.content ≡ None)
          → with_change id change row ≡ row
      one row held =
          cond_both (row.layer.id == id) (record row { content = option_map change row.content })
          row
          (λ (q : Row (List Channels)). q ≡ row)
          (λ here. ap (λ o. record row { content = option_map change o }) (held here)
          ∙ ap (λ (o : Option (List Channels)). record row { content = o }) (sym (held here)))
          (λ _. refl)

  -- the pixels of the paint row of the id are changed
  pub changed_some : (rows : List (Row (List Channels))) (old : List Channels) → HaveIds rows
      → content_of rows id ≡ Some old
      → map (with_change id change) rows ≡ with_content rows id (change old)
  changed_some rows old distinct found =
      map-each (with_change id change) (fill_row id (change old)) rows (λ k d in_list.
      one (get_or rows k d) (held_at rows id (Some old) distinct found k d in_list))
    where
      one : (row : Row (List Channels)) → ((row.layer.id == id) ≡ true → row.content ≡ Some old)
          → with_change id change row ≡ fill_row id (change old) row
      one row held =
          cond-same (row.layer.id == id) (record row { content = option_map change row.content })
          (record row { content = Some (change old) }) row
          (λ here. ap (λ o. record row { content = option_map change o }) (held here))
