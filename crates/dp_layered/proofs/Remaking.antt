-- Trees whose contents are made anew, row by row.
use Rattle.std.proofs.Common.{◌≡◌, ℕ, ◌+◌, ◌<◌, List, [], ◌∷◌, ◌++◌, map, length, get_or, take}
use Rattle.std.proofs.Common.{Option, None, Some, refl, ap, sym, ◌∙◌}
use Rattle.std.specs.List.{filter_map, cons_option}
use Rattle.std.proofs.lemmas.List.{take_more, append-nil, map-append}
use Rattle.std.proofs.lemmas.List.Elements.{filter_map-append}
use Rattle.dp_blend.specs.Color.{Channels}
use Rattle.dp_layers.specs.Rows.{Row, layers_of, contents_of, map_content, map_contents}
use Rattle.dp_layers.specs.Tree.{IsTree}
use Rattle.dp_plain.proofs.Rows.{layers_of-map, contents_of-mapped, tree_of_contents}

module _ {C L : Type 0} (held : L → Option C) (rows : List L) (i : ℕ) (row : L)
    (in_list : i < length rows) (at : row ≡ get_or rows i row) where
  next : (o : Option C) → held row ≡ o
      → filter_map held (take (i + 1) rows) ≡ filter_map held (take i rows) ++ cons_option o []
  next o is =
      ap (filter_map held) (take_more rows i row in_list)
      ∙ filter_map-append held (take i rows) (get_or rows i row ∷ [])
      ∙ ap (λ (p : Option C). filter_map held (take i rows) ++ cons_option p [])
      (ap held (sym at) ∙ is)

  -- a row that holds nothing
  pub none_next : held row ≡ None → filter_map held (take (i + 1) rows)
      ≡ filter_map held (take i rows)
  none_next none = next None none ∙ append-nil (filter_map held (take i rows))

  -- a row that holds x
  pub some_next : (x : C) → held row ≡ Some x
      → filter_map held (take (i + 1) rows) ≡ filter_map held (take i rows) ++ x ∷ []
  some_next x found = next (Some x) found

  -- with another content in place of x
  pub changed_next : (old new : C → List Channels) (change : List Channels → List Channels)
      (x y : C)
      (made now : List C)
      → held row ≡ Some x → map new made ≡ map change (map old (filter_map held (take i rows)))
      → now ≡ made ++ y ∷ []
      → new y ≡ change (old x) → map new now ≡ map change
      (map old (filter_map held (take (i + 1) rows)))
  changed_next old new change x y made now found so_far added is =
      ap (map new) added ∙ map-append new made (y ∷ [])
      ∙ ap (λ ps. ps ++ new y ∷ []) so_far
      ∙ ap (λ (p : List Channels). map change (map old (filter_map held (take i rows))) ++ p ∷ [])
      is
      ∙ sym (ap (λ xs. map change (map old xs)) (some_next x found)
      ∙ ap (map change) (map-append old (filter_map held (take i rows)) (x ∷ []))
      ∙ map-append change (map old (filter_map held (take i rows))) (old x ∷ []))

-- the tree of the same rows with the changed contents
pub changed_tree : {C : Type 0} (old new : C → List Channels)
    (change : List Channels → List Channels)
    (rows now : List (Row C))
    → ((a b : List (Row (List Channels))) → IsTree a → IsTree b → layers_of a ≡ layers_of b
    → contents_of a ≡ contents_of b → a ≡ b)
    → IsTree rows → IsTree now → layers_of now ≡ layers_of rows
    → map new (contents_of now) ≡ map change (map old (contents_of rows))
    → map_contents new now ≡ map_contents change (map_contents old rows)
changed_tree old new change rows now law tree tree_now layers contents =
    law (map_contents new now) (map_contents change (map_contents old rows))
    (tree_of_contents new now tree_now)
    (tree_of_contents change (map_contents old rows) (tree_of_contents old rows tree))
    (layers_of-map (map_content new) (λ row. refl) now ∙ layers
    ∙ sym (layers_of-map (map_content change) (λ row. refl) (map_contents old rows)
    ∙ layers_of-map (map_content old) (λ row. refl) rows))
    (contents_of-mapped new now ∙ contents
    ∙ sym (contents_of-mapped change (map_contents old rows)
    ∙ ap (map change) (contents_of-mapped old rows)))
