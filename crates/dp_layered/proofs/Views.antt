-- What is read of a board whose contents are seen as their pixels.
use Rattle.std.proofs.Common.{◌≡◌, ℕ, ◌<◌, Bool, true, false, cond, List, [], map, Option, Bor}
use Rattle.std.proofs.Common.{None, Some, refl, ap, sym, subst, ◌∙◌, Ok, Err}
use Rattle.std.specs.Prelude.{unwrap_or, option_copied, option_map, is_some, nat_lt, ◌&&◌, Result, OnErr}
use Rattle.std.proofs.lemmas.Bool.{lt-ltb}
use Rattle.dp_blend.specs.Color.{Channels}
use Rattle.dp_blend.specs.Canvas.{pixel_at}
use Rattle.dp_msg_draw.specs.declared.draw.Draw.{Draw}
use Rattle.dp_layers.specs.Changes.{has_effect}
use Rattle.dp_layers.specs.Layers.{is_paint_row}
use Rattle.dp_layers.specs.Rows.{Row, layers_of, content_of, with_content, map_content}
use Rattle.dp_layers.specs.Rows.{map_contents}
use Rattle.dp_layers.specs.Tree.{IsTree}
use Rattle.dp_plain.specs.Board.{Board}
use Rattle.dp_plain.specs.Commands.{arranged, with_change}
use Rattle.dp_plain.specs.View.{pixel_in}
use Rattle.dp_plain.proofs.Rows.{HaveIds, layers_of-map, content_of-mapped, tree_of_contents}
use Rattle.dp_plain.proofs.Rows.{some_mapped, filled-mapped, changed_none, changed_some}

module _ {C : Type 0} (pixels : C → List Channels) (rows : List (Row C)) where
  pub layers_seen : layers_of (map_contents pixels rows) ≡ layers_of rows
  layers_seen = layers_of-map (map_content pixels) (λ row. refl) rows

  module _ (id : ℕ) where
    pub content_seen : (o : Option C) → content_of rows id ≡ o
        → content_of (map_contents pixels rows) id ≡ option_map pixels o
    content_seen o found = content_of-mapped pixels rows id ∙ ap (option_map pixels) found

    pub pixels_seen : (x : C) → content_of rows id ≡ Some x
        → unwrap_or (content_of (map_contents pixels rows) id) [] ≡ pixels x
    pixels_seen x found = ap (λ (o : Option (List Channels)). unwrap_or o [])
        (content_seen (Some x) found)

pub pixel_none : (board : Board) (id x y : ℕ) → content_of board.rows id ≡ None
    → None ≡ pixel_in board id x y
pixel_none board id x y none = rw none (either (nat_lt x board.width && nat_lt y board.height))
  where
    either : (b : Bool) → ◌≡◌ {A = Option Channels} None (cond b None None)
    either true = refl
    either false = refl

pub pixel_some : (board : Board) (id x y : ℕ) (pixels : List Channels)
    → content_of board.rows id ≡ Some pixels
    → x < board.width → y < board.height → Some (pixel_at board.width pixels x y)
    ≡ pixel_in board id x y
pixel_some board id x y pixels found in_x in_y = rw
    (lt-ltb x board.width in_x, lt-ltb y board.height in_y, found) refl

-- ---- a command on the pixels of the layer of an id

module _ {C : Type 0} (pixels : C → List Channels) (rows : List (Row C)) (tree : IsTree rows)
    (id : ℕ)
    (change : List Channels → List Channels) where
  ids : HaveIds (map_contents pixels rows)
  ids = (tree_of_contents pixels rows tree).layers.distinct

  pub painted_none : content_of rows id ≡ None
      → map_contents pixels rows ≡ map (with_change id change) (map_contents pixels rows)
  painted_none none = sym
      (changed_none id change (map_contents pixels rows) ids
      (content_seen pixels rows id None none))

  pub painted_some : (old new : C) → content_of rows id ≡ Some old
      → pixels new ≡ change (pixels old)
      → map_contents pixels (with_content rows id new) ≡ map (with_change id change)
      (map_contents pixels rows)
  painted_some old new found is =
      filled-mapped pixels rows id new ∙ ap (with_content (map_contents pixels rows) id) is
      ∙ sym
      (changed_some id change (map_contents pixels rows) (pixels old) ids
      (content_seen pixels rows id (Some old) found))

-- a paint row of what is seen is one of what is there
pub paint_seen : {C : Type 0} (pixels : C → List Channels) (rows : List (Row C)) (id : ℕ)
    (lent : Option (Bor C)) → option_copied lent ≡ content_of rows id
    → is_some lent ≡ is_paint_row (layers_of rows) id
    → is_some (content_of (map_contents pixels rows) id) ≡ true
    → is_paint_row (layers_of rows) id ≡ true
paint_seen {C} pixels rows id lent same kind present =
    sym kind ∙ copied lent
    ∙ ap (λ (o : Option C). is_some o) same
    ∙ sym (some_mapped pixels (content_of rows id))
    ∙ ap (λ (o : Option (List Channels)). is_some o) (sym (content_of-mapped pixels rows id))
    ∙ present
  where
    copied : (o : Option (Bor C)) → is_some o ≡ is_some (option_copied o)
    copied None = refl
    copied (Some x) = refl

-- what holds, holds if an error comes
pub at_error : {T E P : Type 0} (r : Result T E) → P → OnErr r P
at_error (Ok x) holds = tt
at_error (Err e) holds = holds

-- ---- what a command finds on the rows of a board, whatever these hold

module _ {C : Type 0} (pixels : C → List Channels) (width height background : ℕ)
    (rows : List (Row C)) where
  abbrev viewed : Board
  viewed = record {
    width = width;
    height = height;
    background = background;
    rows = map_contents pixels rows;
  }

  -- whether it has an effect
  pub effect_viewed : (op : Draw) (b : Bool) (board : Board) → viewed ≡ board
      → has_effect (layers_of rows) op ≡ b → has_effect (layers_of board.rows) op ≡ b
  effect_viewed op b board view is =
      subst (λ (w : Board). has_effect (layers_of w.rows) op ≡ b) view
      (ap (λ ls. has_effect ls op) (layers_seen pixels rows) ∙ is)

  -- whether a paint row has the id
  pub paint_viewed : (id : ℕ) (board : Board) → viewed ≡ board
      → is_paint_row (layers_of rows) id ≡ true → is_paint_row (layers_of board.rows) id ≡ true
  paint_viewed id board view is =
      subst (λ (w : Board). is_paint_row (layers_of w.rows) id ≡ true) view
      (ap (λ ls. is_paint_row ls id) (layers_seen pixels rows) ∙ is)

-- a command without an effect on the rows
pub arranged_not : (board : Board) (op : Draw) → has_effect (layers_of board.rows) op ≡ false
    → board ≡ arranged board op
arranged_not board op none = rw none refl
