-- The rows that a snapshot makes: each at the root, then in its place, then with its attributes.
use Rattle.std.proofs.Common.{◌≡◌, ◌==◌, ℕ, Bool, true, false, not, cond, ◌&&◌}
use Rattle.std.proofs.Common.{◌||◌, List, [], ◌∷◌, ◌++◌, map, length, Option, None, Some}
use Rattle.std.proofs.Common.{refl, ap, sym, ◌∙◌, subst, ◌⊎◌, inr, ⊎_elim, eq-eqb, arith}
use Rattle.std.specs.Prelude.{nat_lt}
use Rattle.std.specs.List.{filter, fold, flat_map}
use Rattle.std.proofs.lemmas.Bool.{cases_Bool, eqb-true, ne_eqb, and_parts, lt-ltb, or_left}
use Rattle.std.proofs.lemmas.Bool.{not-true, or_right}
use Rattle.std.proofs.lemmas.List.{map-append, append_assoc, append-nil, length-map, length-append}
use Rattle.std.proofs.lemmas.List.Elements.{All-map}
use Rattle.std.proofs.lemmas.List.Sums.{fold-append}
use Rattle.std.proofs.lemmas.Simd.{map-map}
use Rattle.dp_blend.specs.Color.{Channels, clear}
use Rattle.dp_blend.specs.Canvas.{canvas_of}
use Rattle.dp_msg_draw.specs.Limits.{IsListedMode}
use Rattle.dp_msg_draw.specs.declared.draw.Draw.TheVariants as draws
use Rattle.dp_layers.specs.declared.row.LayerRow.{LayerRow}
use Rattle.dp_layers.specs.Layers.{has_id, has_row, are_within, is_listed_mode, row_limit}
use Rattle.dp_layers.specs.Rows.{Row, layers_of}
use Rattle.dp_layers.specs.Changes.{can_create, can_move, can_set_attr, change_row, set_parent}
use Rattle.dp_layers.specs.Changes.{set_attr, with_layer, rows_changed, placed, inserted_after}
use Rattle.dp_layers.specs.Tree.{IsLayerTree}
use Rattle.dp_layers.proofs.Going.{is_within-root}
use Rattle.dp_plain.specs.Board.{Board}
use Rattle.dp_plain.specs.Commands.{draw}
use Rattle.dp_snap.specs.Snapshot.{create_of, moves_after, is_as_created, attrs_of}
use Rattle.dp_snap_laws.proofs.Lists.{NonePasses, All-middle, filter_one, filter_rest, after_one}
use Rattle.dp_snap_laws.proofs.Lists.{map_one}
use Rattle.dp_snap_laws.proofs.Chains.{in_place, at_root, half, half_has, has_middle, has_none}
use Rattle.dp_snap_laws.proofs.Chains.{half_within, row_numbered, prefix_lacks, rest_away}
use Rattle.dp_snap_laws.proofs.Chains.{parent_there, parent_free}

-- the board with these rows
abbrev pub with_rows : Board → List (Row (List Channels)) → Board
with_rows board rows = record board { rows = rows }

module _ (board : Board) where
  -- what a row holds when it is created
  abbrev pub blank : LayerRow → Option (List Channels)
  blank row = cond (not row.group) (Some (canvas_of board.width board.height (λ x y. clear))) None

  abbrev pub root_row : LayerRow → Row (List Channels)
  root_row row = record { layer = at_root row; content = blank row }

  abbrev pub placed_row : LayerRow → Row (List Channels)
  placed_row row = record { layer = in_place row; content = blank row }

  abbrev pub shown_row : LayerRow → Row (List Channels)
  shown_row row = record { layer = row; content = blank row }

  -- ---- LayerCreate

  create_one : (prefix : List LayerRow) (row : LayerRow) (rest : List LayerRow)
      → IsLayerTree (prefix ++ row ∷ rest)
      → draw (with_rows board (map root_row prefix)) (create_of row)
      ≡ with_rows board (map root_row (prefix ++ row ∷ []))
  create_one prefix row rest tree =
      let layers : layers_of (map root_row prefix) ≡ map at_root prefix =
      map-map (λ (r : Row (List Channels)). r.layer) root_row prefix in
      let some : (row.id == 0) ≡ false = ne_eqb row.id 0 (row_numbered prefix row rest tree) in
      let new : has_row (layers_of (map root_row prefix)) row.id ≡ false =
      ap (λ ls. has_row ls row.id) layers ∙ half_has [] prefix row.id
      ∙ has_none prefix row.id (prefix_lacks prefix row rest tree) in
      let few : nat_lt (length (layers_of (map root_row prefix))) row_limit ≡ true =
      lt-ltb (length (layers_of (map root_row prefix))) row_limit
      (omega (
        arith,
        ap length layers,
        length-map prefix at_root,
        length-append prefix (row ∷ rest),
        tree.few,
      )) in
      let high = is_within-root 15 (layers_of (map root_row prefix)) in
      let can : can_create (layers_of (map root_row prefix)) row.id 0 ≡ true =
      rw (some, new, few, high) refl in
      rw can
      (ap (with_rows board) (sym (map-append root_row prefix (row ∷ []))))

  pub create_all : (prefix rest : List LayerRow) → IsLayerTree (prefix ++ rest)
      → fold draw (with_rows board (map root_row prefix)) (map create_of rest)
      ≡ with_rows board (map root_row (prefix ++ rest))
  create_all prefix [] tree = ap (λ ls. with_rows board (map root_row ls)) (sym (append-nil prefix))
  create_all prefix (row ∷ rest) tree =
      let on : (prefix ++ row ∷ []) ++ rest ≡ prefix ++ row ∷ rest =
      append_assoc prefix (row ∷ []) rest in
      ap (λ b. fold draw b (map create_of rest)) (create_one prefix row rest tree)
      ∙ create_all (prefix ++ row ∷ []) rest (subst IsLayerTree (sym on) tree)
      ∙ ap (λ ls. with_rows board (map root_row ls)) on

  -- ---- LayerMove

  -- the first rows in their places, the others at the root
  abbrev pub half_rows : List LayerRow → List LayerRow → List (Row (List Channels))
  half_rows prefix rest = map placed_row prefix ++ map root_row rest

  layers_of-half : (prefix rest : List LayerRow)
      → layers_of (half_rows prefix rest) ≡ half prefix rest
  layers_of-half prefix rest =
      map-append (λ (r : Row (List Channels)). r.layer) (map placed_row prefix) (map root_row rest)
      ∙ ap (λ ls. ls ++ layers_of (map root_row rest))
      (map-map (λ (r : Row (List Channels)). r.layer) placed_row prefix)
      ∙ ap (λ ls. map in_place prefix ++ ls)
      (map-map (λ (r : Row (List Channels)). r.layer) root_row rest)

  -- with one row more in its place
  half_rows_on : (prefix : List LayerRow) (row : LayerRow) (rest : List LayerRow)
      → half_rows (prefix ++ row ∷ []) rest
      ≡ map placed_row prefix ++ placed_row row ∷ map root_row rest
  half_rows_on prefix row rest =
      ap (λ rs. rs ++ map root_row rest) (map-append placed_row prefix (row ∷ []))
      ∙ append_assoc (map placed_row prefix) (placed_row row ∷ []) (map root_row rest)

  half_on : (prefix : List LayerRow) (row : LayerRow) (rest : List LayerRow)
      → half (prefix ++ row ∷ []) rest ≡ map in_place prefix ++ in_place row ∷ map at_root rest
  half_on prefix row rest =
      ap (λ rs. rs ++ map at_root rest) (map-append in_place prefix (row ∷ []))
      ∙ append_assoc (map in_place prefix) (in_place row ∷ []) (map at_root rest)

  -- the row before the next one has this id, 0 if there is none
  abbrev pub IsLast : List LayerRow → ℕ → Type 0
  IsLast prefix above =
      ((prefix ≡ []) × (above ≡ 0))
      ⊎ ((init : List LayerRow) × (last : LayerRow) × (prefix ≡ init ++ last ∷ [])
      × (above ≡ last.id))

  module _ (prefix : List LayerRow) (row : LayerRow) (rest : List LayerRow)
      (tree : IsLayerTree (prefix ++ row ∷ rest)) (above : ℕ) (last : IsLast prefix above) where
    abbrev has : ℕ → Row (List Channels) → Bool
    has id r = has_id id r.layer

    placed_away : NonePasses (has row.id) (map placed_row prefix)
    placed_away = All-map (λ (r : Row (List Channels)). has row.id r ≡ false) placed_row prefix
        (prefix_lacks prefix row rest tree)

    root_away : NonePasses (has row.id) (map root_row rest)
    root_away = All-map (λ (r : Row (List Channels)). has row.id r ≡ false) root_row rest
        (rest_away prefix row rest tree)

    itself : has row.id (placed_row row) ≡ true
    itself = eq-eqb row.id row.id refl

    -- put behind the row before it, the row stays where it is
    insert_after : placed has (map placed_row prefix ++ placed_row row ∷ map root_row rest) row.id
        above
        ≡ map placed_row prefix ++ placed_row row ∷ map root_row rest
    insert_after =
        let rows : List (Row (List Channels)) =
        map placed_row prefix ++ placed_row row ∷ map root_row rest in
        let taken : filter (has row.id) rows ≡ placed_row row ∷ [] =
        filter_one (has row.id) (map placed_row prefix) (placed_row row) (map root_row rest)
        placed_away itself root_away in
        let others : filter (λ r. not (has row.id r)) rows
        ≡ map placed_row prefix ++ map root_row rest =
        filter_rest (has row.id) (map placed_row prefix) (placed_row row) (map root_row rest)
        placed_away itself root_away in
        ⊎_elim
        (λ (first : (prefix ≡ []) × (above ≡ 0)).
        let none : (above == 0) ≡ true = eq-eqb above 0 first.1 in
        rw (none, taken, others)
        (rw first.0 refl))
        (λ (after : (init : List LayerRow) × (last : LayerRow) × (prefix ≡ init ++ last ∷ [])
        × (above ≡ last.id)).
        let init = after.0 in
        let before = after.1 in
        let tree_split : IsLayerTree (init ++ before ∷ (row ∷ rest)) =
        subst IsLayerTree (ap (λ ls. ls ++ row ∷ rest) after.2
        ∙ append_assoc init (before ∷ []) (row ∷ rest)) tree in
        let some : (above == 0) ≡ false =
        ne_eqb above 0 (λ e. row_numbered init before (row ∷ rest) tree_split
        (sym after.3 ∙ e)) in
        let split : map placed_row prefix ≡ map placed_row init ++ placed_row before ∷ [] =
        ap (map placed_row) after.2 ∙ map-append placed_row init (before ∷ []) in
        let init_away : NonePasses (has above) (map placed_row init) =
        All-map (λ (r : Row (List Channels)). has above r ≡ false) placed_row init
        (subst (λ n. NonePasses (has_id n) init) (sym after.3)
        (prefix_lacks init before (row ∷ rest) tree_split)) in
        let there : has above (placed_row before) ≡ true = eq-eqb before.id above (sym after.3) in
        rw (some, taken, others, split)
        (ap (inserted_after (has above) (placed_row row ∷ []))
        (append_assoc (map placed_row init) (placed_row before ∷ []) (map root_row rest))
        ∙ after_one (has above) (placed_row row ∷ []) (map placed_row init) (placed_row before)
        (map root_row rest) init_away there
        ∙ sym (append_assoc (map placed_row init) (placed_row before ∷ [])
        (placed_row row ∷ map root_row rest))))
        last

    -- the row may be moved there
    above_there : (above == 0
        || (has_row (half prefix (row ∷ rest)) above && not (above == row.id)))
        ≡ true
    above_there =
        ⊎_elim
        (λ (first : (prefix ≡ []) × (above ≡ 0)).
        or_left (above == 0) _ (eq-eqb above 0 first.1))
        (λ (after : (init : List LayerRow) × (last : LayerRow) × (prefix ≡ init ++ last ∷ [])
        × (above ≡ last.id)).
        let init = after.0 in
        let before = after.1 in
        let whole : prefix ++ row ∷ rest ≡ init ++ before ∷ (row ∷ rest) =
        ap (λ ls. ls ++ row ∷ rest) after.2 ∙ append_assoc init (before ∷ []) (row ∷ rest) in
        let present : has_row (half prefix (row ∷ rest)) above ≡ true =
        half_has prefix (row ∷ rest) above ∙ ap (λ ls. has_row ls above) whole
        ∙ ap (has_row (init ++ before ∷ (row ∷ rest))) after.3
        ∙ has_middle init before (row ∷ rest) in
        let other : (before.id == row.id) ≡ false =
        All-middle (λ (r : LayerRow). (r.id == row.id) ≡ false) init before []
        (subst (λ ls. NonePasses (has_id row.id) ls) after.2 (prefix_lacks prefix row rest tree)) in
        or_right (above == 0) _ (rw (present, after.3, other) refl))
        last

    -- every row is nested deep enough after it
    within_after : are_within (map (change_row row.id (set_parent row.parent))
        (half prefix (row ∷ rest))) ≡ true
    within_after =
        let change = change_row row.id (set_parent row.parent) in
        let same : (r : LayerRow) → has_id row.id r ≡ false → change r ≡ r = λ r away. rw away refl
        in
        let prefix_in : NonePasses (has_id row.id) (map in_place prefix) =
        All-map (λ (r : LayerRow). has_id row.id r ≡ false) in_place prefix
        (prefix_lacks prefix row rest tree) in
        let rest_in : NonePasses (has_id row.id) (map at_root rest) =
        All-map (λ (r : LayerRow). has_id row.id r ≡ false) at_root rest
        (rest_away prefix row rest tree) in
        let here : change (at_root row) ≡ in_place row = rw (eq-eqb row.id row.id refl) refl in
        let on : (prefix ++ row ∷ []) ++ rest ≡ prefix ++ row ∷ rest =
        append_assoc prefix (row ∷ []) rest in
        ap are_within
        (map_one (has_id row.id) change same (map in_place prefix) (at_root row) (map at_root rest)
        prefix_in rest_in
        ∙ ap (λ r. map in_place prefix ++ r ∷ map at_root rest) here
        ∙ sym (half_on prefix row rest))
        ∙ half_within (prefix ++ row ∷ []) rest (subst IsLayerTree (sym on) tree)

    may_move : can_move (half prefix (row ∷ rest)) row.id row.parent above ≡ true
    may_move =
        let present : has_row (half prefix (row ∷ rest)) row.id ≡ true =
        half_has prefix (row ∷ rest) row.id ∙ has_middle prefix row rest in
        rw (
          present,
          parent_there prefix row rest tree,
          parent_free prefix row rest tree,
          above_there,
          within_after,
        )
        refl

    -- the rows, of which the one has its parent
    parent_given : rows_changed (half_rows prefix (row ∷ rest)) row.id (set_parent row.parent)
        ≡ map placed_row prefix ++ placed_row row ∷ map root_row rest
    parent_given =
        let change = λ (r : Row (List Channels)).
        with_layer r (change_row row.id (set_parent row.parent) r.layer) in
        let same : (r : Row (List Channels)) → has row.id r ≡ false → change r ≡ r =
        λ r away. rw away refl in
        let here : change (root_row row) ≡ placed_row row = rw (eq-eqb row.id row.id refl) refl in
        map_one (has row.id) change same (map placed_row prefix) (root_row row) (map root_row rest)
        placed_away root_away
        ∙ ap (λ r. map placed_row prefix ++ r ∷ map root_row rest) here

    pub move_one : draw (with_rows board (half_rows prefix (row ∷ rest)))
        (draws.LayerMove row.id row.parent above)
        ≡ with_rows board (half_rows (prefix ++ row ∷ []) rest)
    move_one =
        let can : can_move (layers_of (half_rows prefix (row ∷ rest))) row.id row.parent above
        ≡ true
        = ap (λ ls. can_move ls row.id row.parent above) (layers_of-half prefix (row ∷ rest))
        ∙ may_move in
        rw can
        (ap (with_rows board)
        (ap (λ rs. placed has rs row.id above) parent_given
        ∙ insert_after ∙ sym (half_rows_on prefix row rest)))

    -- a row at the root stands in its place
    root_stays : row.parent ≡ 0
        → half_rows prefix (row ∷ rest) ≡ half_rows (prefix ++ row ∷ []) rest
    root_stays root =
        ap (λ (p : ℕ). map placed_row prefix
        ++ with_layer (root_row row) (set_parent p (at_root row)) ∷ map root_row rest) (sym root)
        ∙ sym (half_rows_on prefix row rest)

    pub moved_or_not : fold draw (with_rows board (half_rows prefix (row ∷ rest)))
        (cond (row.parent == 0) [] (draws.LayerMove row.id row.parent above ∷ []))
        ≡ with_rows board (half_rows (prefix ++ row ∷ []) rest)
    moved_or_not =
        ⊎_elim
        (λ (root : (row.parent == 0) ≡ true).
        rw root (ap (with_rows board) (root_stays (eqb-true row.parent 0 root))))
        (λ (nested : (row.parent == 0) ≡ false). rw nested move_one)
        (cases_Bool (row.parent == 0))

  pub move_all : (prefix rest : List LayerRow) (above : ℕ) → IsLast prefix above
      → IsLayerTree (prefix ++ rest)
      → fold draw (with_rows board (half_rows prefix rest)) (moves_after above rest)
      ≡ with_rows board (map placed_row (prefix ++ rest))
  move_all prefix [] above last tree =
      ap (with_rows board) (append-nil (map placed_row prefix)
      ∙ ap (map placed_row) (sym (append-nil prefix)))
  move_all prefix (row ∷ rest) above last tree =
      let on : (prefix ++ row ∷ []) ++ rest ≡ prefix ++ row ∷ rest =
      append_assoc prefix (row ∷ []) rest in
      fold-append draw (with_rows board (half_rows prefix (row ∷ rest)))
      (cond (row.parent == 0) [] (draws.LayerMove row.id row.parent above ∷ []))
      (moves_after row.id rest)
      ∙ ap (λ b. fold draw b (moves_after row.id rest))
      (moved_or_not prefix row rest tree above last)
      ∙ move_all (prefix ++ row ∷ []) rest row.id (inr (prefix, row, refl, refl))
      (subst IsLayerTree (sym on) tree)
      ∙ ap (λ ls. with_rows board (map placed_row ls)) on

  -- ---- LayerAttr

  -- the first rows as they are, the others without their attributes
  abbrev pub bare_rows : List LayerRow → List LayerRow → List (Row (List Channels))
  bare_rows prefix rest = map shown_row prefix ++ map placed_row rest

  module _ (listed : (mode : ℕ) → IsListedMode mode → is_listed_mode mode ≡ true)
      (prefix : List LayerRow) (row : LayerRow) (rest : List LayerRow)
      (tree : IsLayerTree (prefix ++ row ∷ rest)) where
    bare_rows_on : bare_rows (prefix ++ row ∷ []) rest
        ≡ map shown_row prefix ++ shown_row row ∷ map placed_row rest
    bare_rows_on =
        ap (λ rs. rs ++ map placed_row rest) (map-append shown_row prefix (row ∷ []))
        ∙ append_assoc (map shown_row prefix) (shown_row row ∷ []) (map placed_row rest)

    -- a row that is as created
    made : ℕ → ℕ → Bool → Row (List Channels)
    made opacity mode hidden =
        with_layer (shown_row row) (set_attr opacity mode hidden row)

    as_created : is_as_created row ≡ true → placed_row row ≡ shown_row row
    unfolding made
    as_created is =
        let two = and_parts (row.opacity == 255 && row.mode == 1) (not row.hidden) is in
        let one = and_parts (row.opacity == 255) (row.mode == 1) two.0 in
        let opacity = eqb-true row.opacity 255 one.0 in
        let mode = eqb-true row.mode 1 one.1 in
        let hidden : row.hidden ≡ false = not-true row.hidden two.1 in
        ap (λ (n : ℕ). made n 1 false) (sym opacity)
        ∙ ap (λ (n : ℕ). made row.opacity n false) (sym mode)
        ∙ ap (λ (b : Bool). made row.opacity row.mode b) (sym hidden)

    may_set : can_set_attr (layers_of (bare_rows prefix (row ∷ rest))) row.id row.mode ≡ true
    may_set =
        let mode : is_listed_mode row.mode ≡ true =
        listed row.mode
        (All-middle (λ (r : LayerRow). IsListedMode r.mode) prefix row rest tree.modes)
        in
        let layers = layers_of (bare_rows prefix (row ∷ rest)) in
        let present : has_row layers row.id ≡ true = bare_has prefix in
        rw (present, mode) refl
      where
        bare_has : (before : List LayerRow)
            → has_row (layers_of (bare_rows before (row ∷ rest))) row.id ≡ true
        bare_has [] = rw (eq-eqb row.id row.id refl) refl
        bare_has (r ∷ before) =
            ⊎_elim (λ (here : (r.id == row.id) ≡ true). rw here refl)
            (λ (missed : (r.id == row.id) ≡ false). rw missed (bare_has before))
            (cases_Bool (r.id == row.id))

    attr_one : draw (with_rows board (bare_rows prefix (row ∷ rest)))
        (draws.LayerAttr row.id row.opacity row.mode row.hidden)
        ≡ with_rows board (bare_rows (prefix ++ row ∷ []) rest)
    attr_one =
        let test = λ (r : Row (List Channels)). has_id row.id r.layer in
        let change = λ (r : Row (List Channels)).
        with_layer r (change_row row.id (set_attr row.opacity row.mode row.hidden) r.layer) in
        let same : (r : Row (List Channels)) → test r ≡ false → change r ≡ r =
        λ r away. rw away refl in
        let here : change (placed_row row) ≡ shown_row row = rw (eq-eqb row.id row.id refl) refl in
        let before : NonePasses test (map shown_row prefix) =
        All-map (λ (r : Row (List Channels)). test r ≡ false) shown_row prefix
        (prefix_lacks prefix row rest tree) in
        let after : NonePasses test (map placed_row rest) =
        All-map (λ (r : Row (List Channels)). test r ≡ false) placed_row rest
        (rest_away prefix row rest tree) in
        rw may_set
        (ap (with_rows board)
        (map_one test change same (map shown_row prefix) (placed_row row) (map placed_row rest)
        before after
        ∙ ap (λ r. map shown_row prefix ++ r ∷ map placed_row rest) here
        ∙ sym bare_rows_on))

    pub attr_or_not : fold draw (with_rows board (bare_rows prefix (row ∷ rest))) (attrs_of row)
        ≡ with_rows board (bare_rows (prefix ++ row ∷ []) rest)
    attr_or_not =
        ⊎_elim
        (λ (is : is_as_created row ≡ true).
        rw is (ap (λ r. with_rows board (map shown_row prefix ++ r ∷ map placed_row rest))
        (as_created is)
        ∙ ap (with_rows board) (sym bare_rows_on)))
        (λ (other : is_as_created row ≡ false). rw other attr_one)
        (cases_Bool (is_as_created row))

  pub attr_all : ((mode : ℕ) → IsListedMode mode → is_listed_mode mode ≡ true)
      → (prefix rest : List LayerRow) → IsLayerTree (prefix ++ rest)
      → fold draw (with_rows board (bare_rows prefix rest)) (flat_map attrs_of rest)
      ≡ with_rows board (map shown_row (prefix ++ rest))
  attr_all listed prefix [] tree =
      ap (with_rows board) (append-nil (map shown_row prefix)
      ∙ ap (map shown_row) (sym (append-nil prefix)))
  attr_all listed prefix (row ∷ rest) tree =
      let on : (prefix ++ row ∷ []) ++ rest ≡ prefix ++ row ∷ rest =
      append_assoc prefix (row ∷ []) rest in
      fold-append draw (with_rows board (bare_rows prefix (row ∷ rest))) (attrs_of row)
      (flat_map attrs_of rest)
      ∙ ap (λ b. fold draw b (flat_map attrs_of rest)) (attr_or_not listed prefix row rest tree)
      ∙ attr_all listed (prefix ++ row ∷ []) rest (subst IsLayerTree (sym on) tree)
      ∙ ap (λ ls. with_rows board (map shown_row ls)) on
