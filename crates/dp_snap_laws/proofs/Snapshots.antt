-- A snapshot, drawn on the empty board and replayed, gives its board.
use Rattle.std.proofs.Common.{◌≡◌, ◌≢◌, ◌==◌, ℕ, ◌+◌, ◌≤◌, true, false, List, [], ◌++◌, map, Some}
use Rattle.std.proofs.Common.{refl, ap, sym, ◌∙◌, inl, ⊎_elim, arith, zero-add}
use Rattle.std.specs.Prelude.{pos, ◌+ℤ◌}
use Rattle.std.specs.List.{fold, flat_map}
use Rattle.std.proofs.lemmas.Bool.{cases_Bool, eqb-true, eqb-false, le-leb}
use Rattle.std.proofs.lemmas.List.{append-nil}
use Rattle.std.proofs.lemmas.List.Sums.{fold-append}
use Rattle.std.proofs.lemmas.Simd.{map-map}
use Rattle.dp_blend.specs.Color.{Channels}
use Rattle.dp_board.specs.declared.act.UserAct.{UserAct}
use Rattle.dp_board.specs.Commands.{all_commands, drawn_commands}
use Rattle.dp_board.specs.Laws.{HasNoPoint, PrefixesWithoutPoints}
use Rattle.dp_msg_draw.specs.Limits.{IsListedMode}
use Rattle.dp_layers.specs.Layers.{is_listed_mode}
use Rattle.dp_layers.specs.Rows.{Row, layers_of}
use Rattle.dp_plain.specs.Board.{Board, HasPixels, IsBoard, empty_board}
use Rattle.dp_plain.specs.Commands.{draw, draw_all}
use Rattle.dp_plain.proofs.Resizes.{side_if, resized_to}
use Rattle.dp_snap.specs.Snapshot.{side_commands, background_commands, create_of, moves_after}
use Rattle.dp_snap.specs.Snapshot.{attrs_of, layer_puts, snapshot}
use Rattle.dp_snap_laws.proofs.Making.{with_rows, shown_row, create_all, move_all, attr_all}
use Rattle.dp_snap_laws.proofs.Layers.{fill_all}

-- ---- the canvas

side_is : (n : ℕ) → 1 ≤ n → n ≤ 4096 → Some n ≡ side_if (pos 0 +ℤ pos 0 +ℤ pos n)
side_is n some most =
    let sum : 0 + n ≡ n = zero-add n in
    rw (sum, le-leb 1 n some, le-leb n 4096 most) refl

module _ (board : Board) (whole : IsBoard board) where
  -- the empty board with the sides
  abbrev sized : Board
  sized = record empty_board { width = board.width; height = board.height }

  sides : fold draw empty_board (side_commands board) ≡ sized
  sides =
      ⊎_elim
      (λ (none : (board.width == 0) ≡ true).
      let width = eqb-true board.width 0 none in
      let height = whole.both.0 width in
      rw none
      (ap (λ (w : ℕ). record empty_board { width = w }) (sym width)
      ∙ ap (λ (h : ℕ). record empty_board { width = board.width; height = h }) (sym height)))
      (λ (some : (board.width == 0) ≡ false).
      let wide : board.width ≢ 0 = eqb-false board.width 0 some in
      let high : board.height ≢ 0 = λ e. wide (whole.both.1 e) in
      rw some
      (sym (resized_to empty_board (pos 0) (pos board.width) (pos board.height) (pos 0) board.width
      board.height [] (side_is board.width (some_side board.width wide) whole.width)
      (side_is board.height (some_side board.height high) whole.height) refl)))
      (cases_Bool (board.width == 0))
    where
      some_side : (n : ℕ) → n ≢ 0 → 1 ≤ n
      some_side n ne = omega arith

  background : fold draw sized (background_commands board) ≡ with_rows board []
  background =
      ⊎_elim
      (λ (none : (board.background == 0) ≡ true).
      rw none (ap (λ (n : ℕ). record sized { background = n })
      (sym (eqb-true board.background 0 none))))
      (λ (some : (board.background == 0) ≡ false). rw some refl)
      (cases_Bool (board.background == 0))

  -- ---- drawn

  pub snapshot_drawn : HasPixels board
      → ((mode : ℕ) → IsListedMode mode → is_listed_mode mode ≡ true)
      → draw_all empty_board (snapshot board) ≡ board
  snapshot_drawn has listed =
      let rows = layers_of board.rows in
      let s = side_commands board in
      let b = background_commands board in
      let c = map create_of rows in
      let m = moves_after 0 rows in
      let t = flat_map attrs_of rows in
      let p = flat_map (layer_puts board) rows in
      let tree = whole.tree.layers in
      fold-append draw empty_board (s ++ b ++ c ++ m ++ t) p
      ∙ ap (λ x. fold draw x p)
      (fold-append draw empty_board (s ++ b ++ c ++ m) t
      ∙ ap (λ x. fold draw x t)
      (fold-append draw empty_board (s ++ b ++ c) m
      ∙ ap (λ x. fold draw x m)
      (fold-append draw empty_board (s ++ b) c
      ∙ ap (λ x. fold draw x c)
      (fold-append draw empty_board s b ∙ ap (λ x. fold draw x b) sides ∙ background)
      ∙ create_all board [] rows tree)
      ∙ move_all board [] rows 0 (inl (refl, refl)) tree)
      ∙ attr_all board listed [] rows tree
      ∙ ap (with_rows board)
      (map-map (shown_row board) (λ (r : Row (List Channels)). r.layer) board.rows))
      ∙ fill_all board whole has [] board.rows refl

-- ---- replayed

-- without points each command is drawn
pub all_drawn : {Op : Type 0} → PrefixesWithoutPoints Op → (depth : ℕ) (acts : List (UserAct Op))
    → HasNoPoint acts → drawn_commands depth acts ≡ all_commands acts
all_drawn law depth acts none =
    ap (drawn_commands depth) (sym (append-nil acts))
    ∙ law depth acts [] none
    ∙ append-nil (all_commands acts)
