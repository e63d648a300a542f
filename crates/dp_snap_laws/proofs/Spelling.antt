-- The commands of a snapshot have a spelling, if those that made the board have one.
use Rattle.std.proofs.Common.{◌≡◌, ◌==◌, ℕ, zero, suc, ◌+◌, ◌*◌, ◌^◌, ◌<◌, ◌≤◌, Bool, not, List, []}
use Rattle.std.proofs.Common.{◌∷◌, ◌++◌, length, map, Option, None, Some, refl, sym, ◌∙◌, arith}
use Rattle.std.specs.Prelude.{ℤ, pos, ◌+ℤ◌, ◌&&◌, All, IfSome, unwrap_or, if◌then◌else◌}
use Rattle.std.specs.Prelude.{slice_index_or}
use Rattle.std.specs.List.{filter, fold, flat_map, range_with_len, list_all}
use Rattle.std.specs.Option.{option_map, option_map_or}
use Rattle.std.proofs.lemmas.Int.{ints}
use Rattle.std.proofs.lemmas.Bool.{cond_both, false≢true}
use Rattle.std.proofs.lemmas.List.{length-map, get_or_default}
use Rattle.std.proofs.lemmas.List.Elements.{All-nil, All-cons, All-head, All-tail, All-append}
use Rattle.std.proofs.lemmas.List.Elements.{All-filter, All-map, All-push, All-weaker}
use Rattle.dp_blend.specs.Color.{Channels, IsPixel, clear}
use Rattle.dp_blend.specs.Canvas.{below, pixel_at}
use Rattle.dp_blend.proofs.Canvas.{length-canvas_of}
use Rattle.dp_msg_draw.specs.declared.draw.Draw.{Draw}
use Rattle.dp_msg_draw.specs.declared.draw.Draw.TheVariants as draws
use Rattle.dp_msg_draw.specs.declared.draw.TileContent.{TileContent}
use Rattle.dp_msg_draw.specs.declared.draw.TileContent.TheVariants.{Solid, Pixels}
use Rattle.dp_msg_draw.specs.Limits.{IsTitle, IsListedMode}
use Rattle.dp_msg_draw.specs.Payloads as payloads
use Rattle.dp_msg_draw.specs.Payloads.{DrawHasSpelling, IsContent, draw_payload}
use Rattle.dp_layers.specs.declared.row.LayerRow.{LayerRow}
use Rattle.dp_layers.specs.Layers.{has_id, is_in}
use Rattle.dp_layers.specs.Rows.{Row, layers_of, content_of}
use Rattle.dp_layers.specs.Changes.{change_row, with_layer, rows_changed, new_row, set_attr}
use Rattle.dp_layers.specs.Changes.{set_title, set_parent, inserted_after, placed}
use Rattle.dp_layers.specs.Changes.{has_effect, effect_on, rows_after}
use Rattle.dp_pixels.specs.Commands.{pixel_of, pixels_after}
use Rattle.dp_pixels.specs.Resizes.{is_side, side, pixels_shifted}
use Rattle.dp_pixels.specs.Tiles.{tiles_along}
use Rattle.dp_plain.specs.Board.{Board, HasPixels, IsBoard, empty_board}
use Rattle.dp_plain.specs.Commands.{with_sides, resized, new_content, with_change, painted}
use Rattle.dp_plain.specs.Commands.{painted_layer, arranged, draw}
use Rattle.dp_plain.specs.Picture.{pixels_of}
use Rattle.dp_plain.proofs.Holds.{fit_found}
use Rattle.dp_plain.proofs.Pixels.{canvas_of-All, pixel_of-IsPixel}
use Rattle.dp_snap.specs.Spelled.{IsSpelled}
use Rattle.dp_snap.specs.Tiles.{is_same, tile_pixel, pixels_of_tile, shown_of, on_canvas}
use Rattle.dp_snap.specs.Tiles.{content_of_tile}
use Rattle.dp_snap.specs.Snapshot.{side_commands, background_commands, create_of, moves_after}
use Rattle.dp_snap.specs.Snapshot.{is_as_created, attrs_of, put_of_tile, puts_of, layer_puts}
use Rattle.dp_snap.specs.Snapshot.{snapshot}
use Rattle.dp_snap.proofs.Sizes.{short_content}
use Rattle.dp_snap.proofs.Tests.{equal_tile}

-- ---- what commands that have a spelling make of a board

-- the numbers of the row lie within their widths, and its title is one
record IsSpelledRow (row : LayerRow) : Type 0 where
  id : row.id < 2 ^ 16
  parent : row.parent < 2 ^ 16
  title : IsTitle row.title
  opacity : row.opacity < 2 ^ 8

-- that is so of each row
abbrev AreSpelled : {X : Type 0} → List (Row X) → Type 0
AreSpelled rows = All (λ row. IsSpelledRow row.layer) rows

-- and the background lies within its width
pub record IsSpelledBoard (board : Board) : Type 0 where
  background : board.background < 2 ^ 32
  rows : AreSpelled board.rows

pub empty_spelled : IsSpelledBoard empty_board
empty_spelled = record {
  background = omega arith;
  rows = All-nil (λ (row : Row (List Channels)). IsSpelledRow row.layer);
}

module _ {X : Type 0} where
  abbrev Fits : Row X → Type 0
  Fits row = IsSpelledRow row.layer

  changed_spelled : (rows : List (Row X)) (id : ℕ) (change : LayerRow → LayerRow)
      → ((row : LayerRow) → IsSpelledRow row → IsSpelledRow (change row))
      → AreSpelled rows → AreSpelled (rows_changed rows id change)
  changed_spelled rows id change keeps each =
      All-map Fits (λ row. with_layer row (change_row id change row.layer)) rows
      (All-weaker Fits (λ row. IsSpelledRow (change_row id change row.layer))
      (λ row h. cond_both (has_id id row.layer) (change row.layer) row.layer IsSpelledRow
      (λ _. keeps row.layer h) (λ _. h)) rows each)

  inserted_spelled : (test : Row X → Bool) (taken rows : List (Row X)) → AreSpelled taken
      → AreSpelled rows → AreSpelled (inserted_after test taken rows)
  inserted_spelled test taken [] some each = All-nil Fits
  inserted_spelled test taken (row ∷ rows) some each =
      let first = All-head Fits row rows each in
      let rest = All-tail Fits row rows each in
      cond_both (test row) (row ∷ (taken ++ rows)) (row ∷ inserted_after test taken rows) AreSpelled
      (λ _. All-cons Fits row (taken ++ rows) first (All-append Fits taken rows some rest))
      (λ _. All-cons Fits row (inserted_after test taken rows) first
      (inserted_spelled test taken rows some rest))

  placed_spelled : (has : ℕ → Row X → Bool) (rows : List (Row X)) (id above : ℕ)
      → AreSpelled rows → AreSpelled (placed has rows id above)
  placed_spelled has rows id above each =
      let taken = filter (has id) rows in
      let others = filter (λ row. not (has id row)) rows in
      let some : AreSpelled taken = All-filter (has id) Fits rows each in
      let rest : AreSpelled others = All-filter (λ row. not (has id row)) Fits rows each in
      cond_both (above == 0) (taken ++ others) (inserted_after (has above) taken others) AreSpelled
      (λ _. All-append Fits taken others some rest)
      (λ _. inserted_spelled (has above) taken others some rest)

  effect_spelled : (rows : List (Row X)) (op : Draw) (x : Option X) → DrawHasSpelling op
      → AreSpelled rows → AreSpelled (effect_on rows op x)
  effect_spelled rows (draws.LayerCreate id parent group title) x spelled each =
      All-push Fits rows (record { layer = new_row id parent group title; content = x }) each
      (record { id = spelled.0; parent = spelled.1; title = spelled.2; opacity = omega arith })
  effect_spelled rows (draws.LayerAttr id opacity mode hidden) x spelled each =
      changed_spelled rows id (set_attr opacity mode hidden)
      (λ row h. record { id = h.id; parent = h.parent; title = h.title; opacity = spelled.1 }) each
  effect_spelled rows (draws.LayerTitle id title) x spelled each =
      changed_spelled rows id (set_title title)
      (λ row h. record { id = h.id; parent = h.parent; title = spelled.1; opacity = h.opacity })
      each
  effect_spelled rows (draws.LayerMove id parent above) x spelled each =
      placed_spelled (λ id row. has_id id row.layer) (rows_changed rows id (set_parent parent)) id
      above
      (changed_spelled rows id (set_parent parent)
      (λ row h. record { id = h.id; parent = spelled.1; title = h.title; opacity = h.opacity })
      each)
  effect_spelled rows (draws.LayerDelete id) x spelled each =
      All-filter (λ row. not (is_in (layers_of rows) row.layer.id id)) Fits rows each
  effect_spelled rows op x spelled each = each

  after_spelled : (rows : List (Row X)) (op : Draw) (x : Option X) → DrawHasSpelling op
      → AreSpelled rows → AreSpelled (rows_after rows op x)
  after_spelled rows op x spelled each =
      cond_both (has_effect (layers_of rows) op) (effect_on rows op x) rows AreSpelled
      (λ _. effect_spelled rows op x spelled each) (λ _. each)

module _ (board : Board) (h : IsSpelledBoard board) where
  abbrev FitsHere : Row (List Channels) → Type 0
  FitsHere row = IsSpelledRow row.layer

  painted_spelled : (op : Draw) (id : ℕ) → IsSpelledBoard (painted board op id)
  painted_spelled op id =
      let change = pixels_after board.width board.height op in
      record {
        background = h.background;
        rows = All-map FitsHere (with_change id change) board.rows
            (All-weaker FitsHere (λ row. FitsHere (with_change id change row))
            (λ row fits. cond_both (row.layer.id == id)
            (record row { content = option_map change row.content }) row FitsHere (λ _. fits)
            (λ _. fits)) board.rows h.rows);
      }

  resized_spelled : (top right bottom left : ℤ)
      → IsSpelledBoard (resized board top right bottom left)
  resized_spelled top right bottom left =
      let w : ℤ = pos board.width +ℤ left +ℤ right in
      let h' : ℤ = pos board.height +ℤ top +ℤ bottom in
      let change : List Channels → List Channels = λ pixels.
      pixels_shifted board.width board.height pixels (side w) (side h') left top in
      cond_both (is_side w && is_side h') (with_sides board (side w) (side h') change) board
      IsSpelledBoard
      (λ _. record {
        background = h.background;
        rows = All-map FitsHere (λ row. record {
          layer = row.layer;
          content = option_map change
              row.content;
        }) board.rows h.rows;
      })
      (λ _. h)

  arranged_spelled : (op : Draw) → DrawHasSpelling op → (o : Option ℕ)
      → IsSpelledBoard (option_map_or (painted board op) o (arranged board op))
  arranged_spelled op spelled None = record {
    background = h.background;
    rows = after_spelled board.rows op (new_content board op) spelled h.rows;
  }
  arranged_spelled op spelled (Some id) = painted_spelled op id

  pub drawn_spelled : (op : Draw) → DrawHasSpelling op → IsSpelledBoard (draw board op)
  drawn_spelled (draws.CanvasResize top right bottom left) spelled =
      resized_spelled top right bottom left
  drawn_spelled (draws.Background color) spelled = record { background = spelled; rows = h.rows }
  drawn_spelled op spelled = arranged_spelled op spelled (painted_layer op)

pub all_spelled : (ops : List Draw) (board : Board) → All DrawHasSpelling ops
    → IsSpelledBoard board → IsSpelledBoard (fold draw board ops)
all_spelled [] board each h = h
all_spelled (op ∷ ops) board each h =
    all_spelled ops (draw board op) (All-tail DrawHasSpelling op ops each)
    (drawn_spelled board h op (All-head DrawHasSpelling op ops each))

-- ---- the commands of a snapshot

-- a command that has a spelling and is short has one as a part too
spelled_both : (op : Draw) → DrawHasSpelling op → length (draw_payload op) ≤ 65534 → IsSpelled op
spelled_both op spelled short = (spelled, (spelled, short))

content_spelled : (cols rows : ℕ) (tile : List Channels) → cols ≤ 64 → rows ≤ 64
    → length tile ≡ 4096 → All IsPixel tile → IfSome (content_of_tile cols rows tile) IsContent
content_spelled cols rows tile in_cols in_rows whole each =
    let corner = pixel_at 64 tile 0 0 in
    let valid : (p : Channels) → IsPixel p → payloads.IsPixel (tile_pixel p) =
    λ p is. (is.r, is.g, is.b, is.a) in
    let first : corner ≡ slice_index_or tile 0 corner =
    get_or_default tile 0 clear corner (omega arith) in
    cond_both (list_all (is_same corner) (on_canvas cols rows tile))
    (if is_same clear corner then None else Some (Solid (tile_pixel corner)))
    (Some (Pixels (map tile_pixel tile))) (λ o. IfSome o IsContent)
    (λ _. cond_both (is_same clear corner) None (Some (Solid (tile_pixel corner)))
    (λ o. IfSome o IsContent) (λ _. tt)
    (λ _. valid corner (each 0 clear (omega arith))))
    (λ differ. (
      All-map payloads.IsPixel tile_pixel tile (All-weaker IsPixel (λ p. payloads.IsPixel
          (tile_pixel p)) valid tile each),
      length-map tile tile_pixel ∙ whole,
      λ equal. false≢true (sym differ
          ∙ equal_tile tile corner cols rows whole first in_cols in_rows equal),
    ))

numbers_each : {Y : Type 0} (P : Y → Type 0) (f : ℕ → List Y) (a n : ℕ)
    → ((k : ℕ) → k < a + n → All P (f k)) → All P (flat_map f (range_with_len a n))
numbers_each P f a zero each = All-nil P
numbers_each P f a (suc n) each =
    All-append P (f a) (flat_map f (range_with_len (a + 1) n)) (each a (omega arith))
    (numbers_each P f (a + 1) n (λ k less. each k (omega arith)))

module _ (board : Board) (whole : IsBoard board) (has : HasPixels board)
    (h : IsSpelledBoard board) where
  sides_spelled : All IsSpelled (side_commands board)
  sides_spelled =
      let op = draws.CanvasResize (pos 0) (pos board.width) (pos board.height) (pos 0) in
      cond_both (board.width == 0) [] (op ∷ []) (All IsSpelled) (λ _. All-nil IsSpelled)
      (λ _. All-cons IsSpelled op [] (spelled_both op (
        omega (arith, ints),
        omega (arith, ints, whole.width),
        omega (arith, ints, whole.height),
        omega (arith, ints),
      ) (omega arith)) (All-nil IsSpelled))

  background_spelled : All IsSpelled (background_commands board)
  background_spelled =
      let op = draws.Background board.background in
      cond_both (board.background == 0) [] (op ∷ []) (All IsSpelled) (λ _. All-nil IsSpelled)
      (λ _. All-cons IsSpelled op [] (spelled_both op h.background (omega arith))
      (All-nil IsSpelled))

  creates_spelled : (rows : List LayerRow) → All IsSpelledRow rows
      → All IsSpelled (map create_of rows)
  creates_spelled rows each =
      All-map IsSpelled create_of rows (All-weaker IsSpelledRow (λ row. IsSpelled (create_of row))
      (λ row is. spelled_both (create_of row) (is.id, omega arith, is.title)
      (omega (arith, is.title.0))) rows each)

  moves_spelled : (above : ℕ) (rows : List LayerRow) → above < 2 ^ 16 → All IsSpelledRow rows
      → All IsSpelled (moves_after above rows)
  moves_spelled above [] within each = All-nil IsSpelled
  moves_spelled above (row ∷ rows) within each =
      let is = All-head IsSpelledRow row rows each in
      let op = draws.LayerMove row.id row.parent above in
      All-append IsSpelled (if row.parent == 0 then [] else op ∷ []) (moves_after row.id rows)
      (cond_both (row.parent == 0) [] (op ∷ []) (All IsSpelled) (λ _. All-nil IsSpelled)
      (λ _. All-cons IsSpelled op [] (spelled_both op (is.id, is.parent, within) (omega arith))
      (All-nil IsSpelled)))
      (moves_spelled row.id rows is.id (All-tail IsSpelledRow row rows each))

  attrs_spelled : (rows : List LayerRow) → All IsSpelledRow rows
      → All (λ row. IsListedMode row.mode) rows → All IsSpelled (flat_map attrs_of rows)
  attrs_spelled [] each modes = All-nil IsSpelled
  attrs_spelled (row ∷ rows) each modes =
      let is = All-head IsSpelledRow row rows each in
      let op = draws.LayerAttr row.id row.opacity row.mode row.hidden in
      let mode = All-head (λ (r : LayerRow). IsListedMode r.mode) row rows modes in
      All-append IsSpelled (attrs_of row) (flat_map attrs_of rows)
      (cond_both (is_as_created row) [] (op ∷ []) (All IsSpelled) (λ _. All-nil IsSpelled)
      (λ _. All-cons IsSpelled op [] (spelled_both op (is.id, is.opacity, mode) (omega arith))
      (All-nil IsSpelled)))
      (attrs_spelled rows (All-tail IsSpelledRow row rows each)
      (All-tail (λ (r : LayerRow). IsListedMode r.mode) row rows modes))

  put_spelled : (id row col : ℕ) (o : Option TileContent) → id < 2 ^ 16 → row < 2 ^ 16
      → col < 2 ^ 16 → IfSome o IsContent
      → All IsSpelled (option_map_or (λ content. draws.PutTile id col row 0 content ∷ []) o [])
  put_spelled id row col None in_id in_row in_col valid = All-nil IsSpelled
  put_spelled id row col (Some content) in_id in_row in_col valid =
      let op = draws.PutTile id col row 0 content in
      All-cons IsSpelled op []
      (spelled_both op (in_id, in_col, in_row, omega arith, valid)
      (omega (arith, short_content content valid))) (All-nil IsSpelled)

  layer_spelled : (id : ℕ) (pixels : List Channels) → id < 2 ^ 16 → All IsPixel pixels
      → All IsSpelled (puts_of board.width board.height id pixels)
  layer_spelled id pixels in_id each =
      numbers_each IsSpelled (λ row. flat_map (put_of_tile board.width board.height id pixels row)
      (below (tiles_along board.width))) 0 (tiles_along board.height)
      (λ row in_row. numbers_each IsSpelled (put_of_tile board.width board.height id pixels row) 0
      (tiles_along board.width)
      (λ col in_col.
      let tile = pixels_of_tile board.width board.height pixels col row in
      let pixel : ℕ → ℕ → Channels = λ x y.
      pixel_of board.width board.height pixels (pos (col * 64 + x)) (pos (row * 64 + y)) in
      put_spelled id row col (content_of_tile (shown_of board.width col)
      (shown_of board.height row) tile) in_id
      (omega (arith, whole.height, in_row)) (omega (arith, whole.width, in_col))
      (content_spelled (shown_of board.width col) (shown_of board.height row) tile
      (omega arith) (omega arith) (length-canvas_of 64 64 pixel)
      (canvas_of-All 64 64 pixel (λ x y. pixel_of-IsPixel board.width board.height pixels each
      (pos (col * 64 + x)) (pos (row * 64 + y)))))))

  held : (o : Option (List Channels)) (id : ℕ) → content_of board.rows id ≡ o
      → All IsPixel (unwrap_or o [])
  held None id is = All-nil IsPixel
  held (Some pixels) id is = fit_found (All IsPixel) board.rows id pixels has is

  puts_spelled : (rows : List LayerRow) → All IsSpelledRow rows
      → All IsSpelled (flat_map (layer_puts board) rows)
  puts_spelled [] each = All-nil IsSpelled
  puts_spelled (row ∷ rows) each =
      let is = All-head IsSpelledRow row rows each in
      let puts = puts_of board.width board.height row.id (pixels_of board row.id) in
      All-append IsSpelled (layer_puts board row) (flat_map (layer_puts board) rows)
      (cond_both row.group [] puts (All IsSpelled) (λ _. All-nil IsSpelled)
      (λ _. layer_spelled row.id (pixels_of board row.id) is.id
      (held (content_of board.rows row.id) row.id refl)))
      (puts_spelled rows (All-tail IsSpelledRow row rows each))

  pub snapshot_spelled : All IsSpelled (snapshot board)
  snapshot_spelled =
      let rows = layers_of board.rows in
      let s = side_commands board in
      let b = background_commands board in
      let c = map create_of rows in
      let m = moves_after 0 rows in
      let t = flat_map attrs_of rows in
      let p = flat_map (layer_puts board) rows in
      let each : All IsSpelledRow rows =
      All-map IsSpelledRow (λ (row : Row (List Channels)). row.layer) board.rows h.rows in
      All-append IsSpelled (s ++ b ++ c ++ m ++ t) p
      (All-append IsSpelled (s ++ b ++ c ++ m) t
      (All-append IsSpelled (s ++ b ++ c) m
      (All-append IsSpelled (s ++ b) c
      (All-append IsSpelled s b sides_spelled background_spelled)
      (creates_spelled rows each)) (moves_spelled 0 rows (omega arith) each))
      (attrs_spelled rows each whole.tree.layers.modes)) (puts_spelled rows each)
