-- What boards hold, through every command.
use Rattle.std.proofs.Common.{◌≡◌, ◌==◌, ℕ, ◌*◌, ◌≤◌, Bool, true, false, not, cond, ◌&&◌, List, []}
use Rattle.std.proofs.Common.{◌∷◌, ◌++◌, length, get_or}
use Rattle.std.proofs.Common.{Option, None, Some, refl, ap, sym, ◌∙◌, subst, ⊎_elim, arith}
use Rattle.std.specs.Prelude.{ℤ, pos, ◌+ℤ◌, is_some, option_map, All}
use Rattle.std.specs.Option.{ForSome}
use Rattle.std.specs.List.{filter, cons_option}
use Rattle.std.proofs.lemmas.Bool.{cond_both, cases_Bool, and_parts}
use Rattle.std.proofs.lemmas.Option.{none-some, same_Some}
use Rattle.std.proofs.lemmas.List.Elements.{All-nil, All-cons, All-head, All-tail, All-append}
use Rattle.std.proofs.lemmas.List.Elements.{All-filter, All-map, All-push}
use Rattle.dp_blend.specs.Color.{Channels, clear}
use Rattle.dp_blend.specs.Canvas.{canvas_of}
use Rattle.dp_msg_draw.specs.declared.draw.Draw.{Draw}
use Rattle.dp_msg_draw.specs.declared.draw.Draw.TheVariants as draws
use Rattle.dp_layers.specs.declared.row.LayerRow.{LayerRow}
use Rattle.dp_layers.specs.Layers.{has_id, is_in, is_paint_row}
use Rattle.dp_layers.specs.Rows.{Row, layers_of, contents_of, content_of, fill_row, with_content}
use Rattle.dp_layers.specs.Rows.{map_content, map_contents}
use Rattle.dp_layers.specs.Changes.{change_row, with_layer, rows_changed, set_attr, set_title}
use Rattle.dp_layers.specs.Changes.{set_parent, new_row, inserted_after, placed, has_effect}
use Rattle.dp_layers.specs.Changes.{effect_on, rows_after, makes_paint_row}
use Rattle.dp_layers.specs.Tree.{IsTree}
use Rattle.dp_pixels.specs.Commands.{pixels_after}
use Rattle.dp_plain.specs.Board.{Board, Covers, IsBoard}
use Rattle.dp_pixels.specs.Resizes.{is_side, side, pixels_shifted}
use Rattle.dp_plain.specs.Commands.{with_sides, resized, new_content, arranged}
use Rattle.dp_plain.specs.Commands.{with_change, painted, draw}
use Rattle.dp_plain.specs.Contents.{ContentsFit, IsHeld}
use Rattle.dp_blend.proofs.Canvas.{length-canvas_of}
use Rattle.dp_plain.proofs.Resizes.{side_bounds}
use Rattle.dp_plain.proofs.Rows.{tree_of_contents, tree_changed}

-- ---- what every content passes

module _ {C : Type 0} (P : C → Type 0) where
  -- the row's content passes
  abbrev RowFits : Row C → Type 0
  RowFits row = ForSome row.content P

  pub fit_found : (rows : List (Row C)) (id : ℕ) (x : C) → ContentsFit P rows
      → content_of rows id ≡ Some x → P x
  fit_found [] id x each found = absurd (none-some x found)
  fit_found (row ∷ rows) id x each found =
      ⊎_elim (λ (here : (row.layer.id == id) ≡ true). All-head RowFits row rows each x
      (rw here at found))
      (λ (missed : (row.layer.id == id) ≡ false). fit_found rows id x
      (All-tail RowFits row rows each)
      (rw missed at found))
      (cases_Bool (row.layer.id == id))

  pub fit_contents : (rows : List (Row C)) → All P (contents_of rows) → ContentsFit P rows
  fit_contents [] each = All-nil RowFits
  fit_contents (row ∷ rows) each =
      let both = split row.content each in
      All-cons RowFits row rows both.0 (fit_contents rows both.1)
    where
      split : (o : Option C) → All P (cons_option o (contents_of rows))
          → ForSome o P × All P (contents_of rows)
      split None each = ((λ x is. absurd (none-some x is)), each)
      split (Some y) each = (
        (λ x is. subst P (same_Some y x is) (All-head P y (contents_of rows) each)),
        All-tail P y
            (contents_of rows) each,
      )

  pub fit_filled : (rows : List (Row C)) (id : ℕ) (x : C) → ContentsFit P rows → P x
      → ContentsFit P (with_content rows id x)
  fit_filled rows id x each fits =
      All-map RowFits (fill_row id x) rows (λ k d in_list.
      cond_both ((get_or rows k d).layer.id == id) (record (get_or rows k d) { content = Some x })
      (get_or rows k d) RowFits
      (λ _ y is. subst P (same_Some x y is) fits) (λ _. each k d in_list))

  -- ---- the rows after a command

  fit_changed : (rows : List (Row C)) (id : ℕ) (change : LayerRow → LayerRow) → ContentsFit P rows
      → ContentsFit P (rows_changed rows id change)
  fit_changed rows id change each = All-map RowFits
      (λ row. with_layer row (change_row id change row.layer)) rows each

  fit_inserted : (p : Row C → Bool) (taken rows : List (Row C)) → ContentsFit P taken
      → ContentsFit P rows
      → ContentsFit P (inserted_after p taken rows)
  fit_inserted p taken [] left right = right
  fit_inserted p taken (row ∷ rows) left right =
      let head = All-head RowFits row rows right in
      let tail = All-tail RowFits row rows right in
      cond_both (p row) (row ∷ (taken ++ rows)) (row ∷ inserted_after p taken rows) (All RowFits)
      (λ _. All-cons RowFits row (taken ++ rows) head (All-append RowFits taken rows left tail))
      (λ _. All-cons RowFits row (inserted_after p taken rows) head
      (fit_inserted p taken rows left tail))

  fit_placed : (has : ℕ → Row C → Bool) (rows : List (Row C)) (id above : ℕ) → ContentsFit P rows
      → ContentsFit P (placed has rows id above)
  fit_placed has rows id above each =
      let left = All-filter (has id) RowFits rows each in
      let right = All-filter (λ row. not (has id row)) RowFits rows each in
      cond_both (above == 0) (filter (has id) rows ++ filter (λ row. not (has id row)) rows)
      (inserted_after (has above) (filter (has id) rows) (filter (λ row. not (has id row)) rows))
      (All RowFits)
      (λ _. All-append RowFits (filter (has id) rows) (filter (λ row. not (has id row)) rows) left
      right)
      (λ _. fit_inserted (has above) (filter (has id) rows) (filter (λ row. not (has id row)) rows)
      left
      right)

  fit_effect : (rows : List (Row C)) (op : Draw) (x : Option C) → ContentsFit P rows → ForSome x P
      → ContentsFit P (effect_on rows op x)
  fit_effect rows (draws.LayerCreate id parent group title) x each fits =
      All-push RowFits rows (record { layer = new_row id parent group title; content = x }) each
      fits
  fit_effect rows (draws.LayerAttr id opacity mode hidden) x each fits = fit_changed rows id
      (set_attr opacity mode hidden) each
  fit_effect rows (draws.LayerTitle id title) x each fits = fit_changed rows id (set_title title)
      each
  fit_effect rows (draws.LayerMove id parent above) x each fits =
      fit_placed (λ i row. has_id i row.layer) (rows_changed rows id (set_parent parent)) id above
      (fit_changed rows id (set_parent parent) each)
  fit_effect rows (draws.LayerDelete id) x each fits = All-filter
      (λ row. not (is_in (layers_of rows) row.layer.id id)) RowFits rows each
  fit_effect rows _ x each fits = each

  pub fit_after : (rows : List (Row C)) (op : Draw) (x : Option C) → ContentsFit P rows
      → ForSome x P
      → ContentsFit P (rows_after rows op x)
  fit_after rows op x each fits =
      cond_both (has_effect (layers_of rows) op) (effect_on rows op x) rows (ContentsFit P)
      (λ _. fit_effect rows op x each fits) (λ _. each)

-- ---- what a board over contents of any kind keeps to

-- what trees of layers are after a command
abbrev pub TreesStay : Type 0 → Type 0
TreesStay C = (rows : List (Row C)) (op : Draw) (x : Option C) → IsTree rows
    → is_some x ≡ makes_paint_row op → IsTree (rows_after rows op x)

module _ {C : Type 0} (fits : ℕ → ℕ → C → Type 0) (width height : ℕ) (rows now : List (Row C))
    (held : IsHeld fits width height rows) where
  pub held_after : TreesStay C → (op : Draw) (x : Option C) → is_some x ≡ makes_paint_row op
      → ForSome x (fits width height)
      → now ≡ rows_after rows op x → IsHeld fits width height now
  held_after law op x kind new is = record {
    wide = held.wide;
    high = held.high;
    both = held.both;
    tree = subst IsTree (sym is) (law rows op x held.tree kind);
    each = subst (ContentsFit (fits width height)) (sym is)
        (fit_after (fits width height) rows op x held.each new);
  }

  pub held_filled : ((rows : List (Row C)) (id : ℕ) (x : C) → IsTree rows
      → is_paint_row (layers_of rows) id ≡ true → IsTree (with_content rows id x))
      → (id : ℕ) (x : C) → is_paint_row (layers_of rows) id ≡ true → fits width height x
      → now ≡ with_content rows id x → IsHeld fits width height now
  held_filled law id x paint fit is = record {
    wide = held.wide;
    high = held.high;
    both = held.both;
    tree = subst IsTree (sym is) (law rows id x held.tree paint);
    each = subst (ContentsFit (fits width height)) (sym is)
        (fit_filled (fits width height) rows id x held.each fit);
  }

-- a board whose contents have a pixel for each place is a board
pub board_of_held : {C : Type 0} (fits : ℕ → ℕ → C → Type 0) (pixels : ℕ → ℕ → C → List Channels)
    (width height background : ℕ) (rows : List (Row C))
    → ((width height : ℕ) (content : C) → fits width height content
    → length (pixels width height content) ≡ width * height)
    → IsHeld fits width height rows
    → IsBoard
    (record {
      width = width;
      height = height;
      background = background;
      rows = map_contents
          (pixels width height) rows;
    })
board_of_held {C} fits pixels width height background rows covers held = record {
  width = held.wide;
  height = held.high;
  both = held.both;
  tree = tree_of_contents (pixels width height) rows held.tree;
  each = All-map (Covers width height) (map_content (pixels width height)) rows
      (λ k d in_list. covered (get_or rows k d).content (held.each k d in_list));
}
  where
    covered : (o : Option C) → ForSome o (fits width height)
        → ForSome (option_map (pixels width height) o) (λ ps. length ps ≡ width * height)
    covered None fit = λ ps is. absurd (none-some ps is)
    covered (Some content) fit = λ ps is.
        ap length (sym (same_Some (pixels width height content) ps is))
        ∙ covers width height content (fit content refl)

-- ---- what is drawn on a board leaves a board

changed_covers : (change : List Channels → List Channels) (count : ℕ)
    → ((pixels : List Channels) → length (change pixels) ≡ count)
    → (o : Option (List Channels)) → ForSome (option_map change o) (λ pixels. length pixels ≡ count)
changed_covers change count as_many None = λ pixels is. absurd (none-some pixels is)
changed_covers change count as_many (Some old) = λ pixels is. ap length
    (sym (same_Some (change old) pixels is)) ∙ as_many old

module _ (board : Board) (whole : IsBoard board) where
  with_sides_whole : (width height : ℕ) (change : List Channels → List Channels)
      → ((pixels : List Channels) → length (change pixels) ≡ width * height)
      → (1 ≤ width) × (width ≤ 4096) → (1 ≤ height) × (height ≤ 4096)
      → IsBoard (with_sides board width height change)
  with_sides_whole width height change as_many wide high = record {
    width = wide.1;
    height = high.1;
    both = ((λ none. absurd (omega (arith, wide.0))), (λ none. absurd (omega (arith, high.0))));
    tree = tree_of_contents change board.rows whole.tree;
    each = All-map (Covers width height) (map_content change) board.rows
        (λ k d in_list. changed_covers change (width * height) as_many
        (get_or board.rows k d).content);
  }

  resized_whole : (top right bottom left : ℤ) → IsBoard (resized board top right bottom left)
  resized_whole top right bottom left =
      let w : ℤ = pos board.width +ℤ left +ℤ right in
      let h : ℤ = pos board.height +ℤ top +ℤ bottom in
      let change : List Channels
      → List Channels = λ pixels. pixels_shifted board.width board.height pixels (side w)
      (side h) left top in
      cond_both (is_side w && is_side h) (with_sides board (side w) (side h) change) board IsBoard
      (λ (sides : (is_side w && is_side h) ≡ true).
      let two = and_parts (is_side w) (is_side h) sides in
      with_sides_whole (side w) (side h) change (λ pixels. length-canvas_of (side w) (side h) _)
      (side_bounds w two.0) (side_bounds h two.1))
      (λ _. whole)

  painted_whole : (op : Draw) (id : ℕ) → IsBoard (painted board op id)
  painted_whole op id =
      let change : List Channels → List Channels = pixels_after board.width board.height op in
      record {
        width = whole.width;
        height = whole.height;
        both = whole.both;
        tree = tree_changed id change board.rows whole.tree;
        each = All-map (Covers board.width board.height) (with_change id change) board.rows
            (λ k d in_list.
            cond_both ((get_or board.rows k d).layer.id == id)
            (record
            (get_or board.rows k d)
            { content = option_map change (get_or board.rows k d).content })
            (get_or board.rows k d) (Covers board.width board.height)
            (λ _. changed_covers change (board.width * board.height)
            (λ pixels. length-canvas_of board.width board.height _) (get_or board.rows k d).content)
            (λ _. whole.each k d in_list));
      }

  module _ (law : TreesStay (List Channels)) where
    arranged_whole : (op : Draw) → IsBoard (arranged board op)
    arranged_whole op =
        let pixels : List Channels = canvas_of board.width board.height (λ x y. clear) in
        record {
          width = whole.width;
          height = whole.height;
          both = whole.both;
          tree = law board.rows op (new_content board op) whole.tree
              (kind (makes_paint_row op) pixels);
          each = fit_after (λ ps. length ps ≡ board.width * board.height) board.rows op
              (new_content board op) whole.each
              (fits (makes_paint_row op) pixels (length-canvas_of board.width board.height _));
        }
      where
        kind : (b : Bool) (pixels : List Channels) → is_some (cond b (Some pixels) None) ≡ b
        kind true pixels = refl
        kind false pixels = refl

        fits : (b : Bool) (pixels : List Channels) → length pixels ≡ board.width * board.height
            → ForSome (cond b (Some pixels) None) (λ ps. length ps ≡ board.width * board.height)
        fits true pixels same = λ ps is. ap length (sym (same_Some pixels ps is)) ∙ same
        fits false pixels same = λ ps is. absurd (none-some ps is)

    pub drawn_whole : (op : Draw) → IsBoard (draw board op)
    drawn_whole (draws.CanvasResize top right bottom left) = resized_whole top right bottom left
    drawn_whole (draws.Background color) = record {
      width = whole.width;
      height = whole.height;
      both = whole.both;
      tree = whole.tree;
      each = whole.each;
    }
    drawn_whole (draws.PutImage layer mode x y w h colors) = painted_whole
        (draws.PutImage layer mode x y w h colors) layer
    drawn_whole (draws.FillRect layer mode x y w h color) = painted_whole
        (draws.FillRect layer mode x y w h color) layer
    drawn_whole (draws.PutTile layer col row repeat content) = painted_whole
        (draws.PutTile layer col row repeat content) layer
    drawn_whole (draws.DabsRound layer x y r g b mode dabs) = painted_whole
        (draws.DabsRound layer x y r g b mode dabs) layer
    drawn_whole (draws.DabsSquare layer x y r g b mode dabs) = painted_whole
        (draws.DabsSquare layer x y r g b mode dabs) layer
    drawn_whole (draws.MoveRect layer sx sy w h tx ty) = painted_whole
        (draws.MoveRect layer sx sy w h tx ty) layer
    drawn_whole (draws.LayerCreate id parent group title) = arranged_whole
        (draws.LayerCreate id parent group title)
    drawn_whole (draws.LayerAttr id opacity mode hidden) = arranged_whole
        (draws.LayerAttr id opacity mode hidden)
    drawn_whole (draws.LayerTitle id title) = arranged_whole (draws.LayerTitle id title)
    drawn_whole (draws.LayerMove id parent above) = arranged_whole (draws.LayerMove id parent above)
    drawn_whole (draws.LayerDelete id) = arranged_whole (draws.LayerDelete id)
