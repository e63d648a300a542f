-- Contents in order, held for the paint rows.
use Rattle.std.proofs.Common.{◌≡◌, ◌==◌, ℕ, suc, true, false, not, cond, List, [], ◌∷◌}
use Rattle.std.proofs.Common.{length, get_or, Option, None, Some, refl, ap, sym, ◌∙◌, subst}
use Rattle.std.proofs.Common.{◌+◌, ◌<◌, ◌++◌, drop, arith, eq-eqb, append_assoc}
use Rattle.std.specs.Prelude.{is_some, MatchOption}
use Rattle.std.proofs.lemmas.List.{append-nil, drop_more, nil_from_length}
use Rattle.std.specs.List.{cons_option, count_by}
use Rattle.std.proofs.lemmas.Bool.{eqb-true, ne_eqb, false≢true}
use Rattle.std.proofs.lemmas.List.Sums.{sum_by-cons}
use Rattle.dp_layers.proofs.Finding.{by_test}
use Rattle.dp_layers.specs.declared.row.LayerRow.{LayerRow}
use Rattle.dp_layers.specs.declared.held.Held.{Held}
use Rattle.dp_layers.specs.Layers.{row_of, is_paint_row}
use Rattle.dp_layers.specs.Rows.{Row, layers_of, contents_of}
use Rattle.dp_layers.specs.Inside.{held_by, rows_with, IsHolding, holding, paired}
use Rattle.dp_layers.proofs.Finding.{AreDistinct, AreDistinct-tail, AreDistinct-absent}
use Rattle.dp_layers.proofs.Trees.{All-present}
use Rattle.dp_layers.proofs.Places.{absent-rest}
use Rattle.dp_layers.proofs.Holding.{is_paint, nothing, layers_with, with_same, value_layers}

-- how many paint rows there are
abbrev paints : List LayerRow → ℕ
paints rows = count_by (λ row. not row.group) rows

count_group : (row : LayerRow) (rows : List LayerRow) → row.group ≡ true
    → paints (row ∷ rows) ≡ paints rows
count_group row rows group =
    sum_by-cons (λ (l : LayerRow). cond (not l.group) 1 0) row rows ∙ rw group (omega arith)

count_paint : (row : LayerRow) (rows : List LayerRow) → row.group ≡ false
    → paints (row ∷ rows) ≡ suc (paints rows)
count_paint row rows paint =
    sum_by-cons (λ (l : LayerRow). cond (not l.group) 1 0) row rows ∙ rw paint (omega arith)

module _ {X : Type 0} where
  pub paired_group : (row : LayerRow) (rows : List LayerRow) (xs : List X) → row.group ≡ true
      → paired (row ∷ rows) xs ≡ paired rows xs
  paired_group row rows [] group = refl
  paired_group row rows (x ∷ xs) group = rw group refl

  pub paired_paint : (row : LayerRow) (rows : List LayerRow) (x : X) (xs : List X)
      → row.group ≡ false
      → paired (row ∷ rows) (x ∷ xs) ≡ record { id = row.id; x = x } ∷ paired rows xs
  paired_paint row rows x xs paint = rw paint refl

  -- one row more
  pub paired_none : (rows : List LayerRow) (i : ℕ) (row : LayerRow) (held : List (Held X))
      (xs : List X) → i < length rows → row ≡ get_or rows i row → row.group ≡ true
      → (held ++ []) ++ paired (drop (i + 1) rows) xs ≡ held ++ paired (drop i rows) xs
  paired_none rows i row held xs within is group =
      grind (arith, append-nil, drop_more rows i row within, paired_group)

  pub paired_next : (rows : List LayerRow) (i : ℕ) (row : LayerRow) (held : List (Held X))
      (x : Option X) (before xs : List X) (m n : ℕ) → m ≡ length before → n ≡ length xs
      → i < length rows → row ≡ get_or rows i row → row.group ≡ false
      → MatchOption x ((m ≡ 0) × (n ≡ 0)) (λ y. (before ≡ y ∷ xs) × (n + 1 ≡ m))
      → (held ++ holding row.id x) ++ paired (drop (i + 1) rows) xs ≡ held ++ paired (drop i rows)
      before
  paired_next rows i row held x before xs m n long short within is paint steps =
      grind (arith, append_assoc, drop_more rows i row within, paired_paint, nil_from_length)

  -- something is held for exactly the paint rows
  paired_kinds : (rows : List LayerRow) (xs : List X) → AreDistinct rows
      → length xs ≡ paints rows → (y : ℕ)
      → is_some (held_by (paired rows xs) y) ≡ is_paint_row rows y
  paired_kinds [] xs distinct count y = refl
  paired_kinds (r ∷ rows) xs distinct count y =
      by_test r.group
      (λ group. let rest = paired_kinds rows xs (AreDistinct-tail r rows distinct)
      (count ∙ count_group r rows group) y in
      ap (λ held. is_some (held_by held y)) (paired_group r rows xs group) ∙ rest
      ∙ by_test (r.id == y)
      (λ here. rw (here, group)
      (ap is_paint (absent-rest r rows y distinct (eqb-true r.id y here))))
      (λ missed. rw missed refl))
      (λ paint. next xs paint (count ∙ count_paint r rows paint) (paired_kinds rows))
    where
      next : (xs : List X) → r.group ≡ false → length xs ≡ suc (paints rows)
          → ((zs : List X) → AreDistinct rows → length zs ≡ paints rows → (y : ℕ)
          → is_some (held_by (paired rows zs) y) ≡ is_paint_row rows y)
          → is_some (held_by (paired (r ∷ rows) xs) y) ≡ is_paint_row (r ∷ rows) y
      next [] paint count rest = absurd (omega arith)
      next (x ∷ xs) paint count rest =
          ap (λ held. is_some (held_by held y)) (paired_paint r rows x xs paint)
          ∙ by_test (r.id == y)
          (λ here. rw (here, paint) refl)
          (λ missed. rw missed
          (rest xs (AreDistinct-tail r rows distinct) (omega arith) y))

  -- they are held in order
  paired_order : (rows : List LayerRow) (xs : List X) → AreDistinct rows
      → length xs ≡ paints rows → contents_of (rows_with (paired rows xs) rows) ≡ xs
  paired_order [] [] distinct count = refl
  paired_order [] (x ∷ xs) distinct count = absurd (omega arith)
  paired_order (r ∷ rows) xs distinct count =
      by_test r.group
      (λ group. let fewer = count ∙ count_group r rows group in
      let tail = AreDistinct-tail r rows distinct in
      let none : held_by (paired rows xs) r.id ≡ None = nothing (held_by (paired rows xs) r.id)
      (paired_kinds rows xs tail fewer r.id ∙ ap is_paint (AreDistinct-absent r rows distinct)) in
      ap (λ held. contents_of (rows_with held (r ∷ rows))) (paired_group r rows xs group)
      ∙ ap (λ o. cons_option o (contents_of (rows_with (paired rows xs) rows))) none
      ∙ paired_order rows xs tail fewer)
      (λ paint. next xs paint (count ∙ count_paint r rows paint) (paired_order rows))
    where
      next : (xs : List X) → r.group ≡ false → length xs ≡ suc (paints rows)
          → ((zs : List X) → AreDistinct rows → length zs ≡ paints rows
          → contents_of (rows_with (paired rows zs) rows) ≡ zs)
          → contents_of (rows_with (paired (r ∷ rows) xs) (r ∷ rows)) ≡ xs
      next [] paint count rest = absurd (omega arith)
      next (x ∷ xs) paint count rest =
          let held : List (Held X) = record { id = r.id; x = x } ∷ paired rows xs in
          let first : held_by held r.id ≡ Some x = rw (eq-eqb r.id r.id refl) refl in
          ap (λ h. contents_of (rows_with h (r ∷ rows))) (paired_paint r rows x xs paint)
          ∙ ap (λ o. cons_option o (contents_of (rows_with held rows))) first
          ∙ ap (λ rs. x ∷ contents_of rs) (with_same held (paired rows xs) rows (λ k d in_list.
          rw (ne_eqb r.id (get_or rows k d).id (λ e.
          let P : ℕ → Type 0 = λ z. row_of rows z ≡ None in
          false≢true (sym (ap is_some (subst P e (AreDistinct-absent r rows distinct)))
          ∙ All-present rows k d in_list))) refl))
          ∙ ap (λ zs. x ∷ zs) (rest xs (AreDistinct-tail r rows distinct) (omega arith))

  -- the rows of a tree with other contents
  module _ (contents : List (Held X)) (rows : List LayerRow) (inside : IsHolding rows contents)
      (value : List (Row X)) (view : rows_with contents rows ≡ value) (xs : List X)
      (count : length xs ≡ paints (layers_of value)) (now : List LayerRow) (holds : List (Held X))
      (same : now ≡ rows) (are : holds ≡ paired now xs) where
    counted : length xs ≡ paints rows
    counted = count ∙ ap paints (value_layers contents rows inside value view)

    held : holds ≡ paired rows xs
    held = are ∙ ap (λ ls. paired ls xs) same

    pub remade_inside : IsHolding now holds
    remade_inside =
        rw (same, held) (record {
          tree = inside.tree;
          by_kind = paired_kinds rows xs inside.tree.distinct counted;
        })

    pub remade_rows : layers_of (rows_with holds now) ≡ layers_of value
    remade_rows =
        layers_with holds now ∙ same ∙ sym (value_layers contents rows inside value view)

    pub remade_contents : contents_of (rows_with holds now) ≡ xs
    remade_contents = rw (same, held) (paired_order rows xs inside.tree.distinct counted)
