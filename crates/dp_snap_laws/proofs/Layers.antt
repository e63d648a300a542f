-- The tiles of the paint rows of a board, put on its rows without pixels, give its rows.
use Rattle.std.proofs.Common.{◌≡◌, ◌==◌, ℕ, ◌*◌, true, false, not, cond, List, [], ◌∷◌, ◌++◌}
use Rattle.std.proofs.Common.{map, length, Option, None, Some, refl, ap, sym, ◌∙◌, subst, eq-eqb}
use Rattle.std.specs.Prelude.{All, is_some, unwrap_or}
use Rattle.std.specs.List.{fold, flat_map, IsDistinct}
use Rattle.std.specs.Option.{ForSome, option_map_or}
use Rattle.std.proofs.lemmas.Bool.{not-true, not-false}
use Rattle.std.proofs.lemmas.List.{append_assoc}
use Rattle.std.proofs.lemmas.List.Elements.{All-nil, All-cons, All-head, All-tail, All-append}
use Rattle.std.proofs.lemmas.List.Elements.{All-map}
use Rattle.std.proofs.lemmas.List.Sums.{fold-append}
use Rattle.std.proofs.lemmas.Simd.{map-map}
use Rattle.dp_blend.specs.Color.{Channels, IsPixel, clear}
use Rattle.dp_blend.specs.Canvas.{below, canvas_of}
use Rattle.dp_msg_draw.specs.declared.draw.Draw.{Draw}
use Rattle.dp_msg_draw.specs.declared.draw.Draw.TheVariants as draws
use Rattle.dp_msg_draw.specs.declared.draw.TileContent.{TileContent}
use Rattle.dp_layers.specs.declared.row.LayerRow.{LayerRow}
use Rattle.dp_layers.specs.Rows.{Row, layers_of, content_of}
use Rattle.dp_pixels.specs.Commands.{pixels_after}
use Rattle.dp_pixels.specs.Tiles.{tiles_along}
use Rattle.dp_plain.specs.Board.{Board, Covers, HasPixels, IsBoard}
use Rattle.dp_plain.specs.Commands.{draw, with_change}
use Rattle.dp_plain.specs.Picture.{pixels_of}
use Rattle.dp_plain.proofs.Rows.{content_itself}
use Rattle.dp_snap.specs.Tiles.{content_of_tile, pixels_of_tile, shown_of}
use Rattle.dp_snap.specs.Snapshot.{put_of_tile, puts_of, layer_puts}
use Rattle.dp_snap_laws.proofs.Lists.{NonePasses, All-middle, map_one, before_away, after_away}
use Rattle.dp_snap_laws.proofs.Making.{with_rows, blank}
use Rattle.dp_snap_laws.proofs.Puts.{puts_give}

-- ---- the commands of a layer

-- the command puts a tile of the layer of the id
abbrev pub IsPutOf : ℕ → Draw → Type 0
IsPutOf id (draws.PutTile layer col row repeat content) = layer ≡ id
IsPutOf id op = ⊥

All-flat_map : {X A : Type 0} (P : A → Type 0) (f : X → List A) (xs : List X)
    → ((x : X) → All P (f x)) → All P (flat_map f xs)
All-flat_map P f [] each = All-nil P
All-flat_map P f (x ∷ xs) each =
    All-append P (f x) (flat_map f xs) (each x) (All-flat_map P f xs each)

puts_are : (w h id : ℕ) (pixels : List Channels) → All (IsPutOf id) (puts_of w h id pixels)
puts_are w h id pixels =
    All-flat_map (IsPutOf id)
    (λ row. flat_map (put_of_tile w h id pixels row) (below (tiles_along w)))
    (below (tiles_along h))
    (λ row. All-flat_map (IsPutOf id) (put_of_tile w h id pixels row) (below (tiles_along w))
    (λ col. one row col (content_of_tile (shown_of w col) (shown_of h row)
    (pixels_of_tile w h pixels col row))))
  where
    one : (row col : ℕ) (found : Option TileContent)
        → All (IsPutOf id) (option_map_or (λ c. draws.PutTile id col row 0 c ∷ []) found [])
    one row col None = All-nil (IsPutOf id)
    one row col (Some content) =
        All-cons (IsPutOf id) (draws.PutTile id col row 0 content) [] refl (All-nil (IsPutOf id))

module _ (board : Board) where
  -- the row with these pixels
  abbrev holding : LayerRow → List Channels → Row (List Channels)
  holding layer pixels = record { layer = layer; content = Some pixels }

  abbrev paint : List Channels → Draw → List Channels
  paint pixels op = pixels_after board.width board.height op pixels

  -- ---- drawn on one row

  module _ (xs : List (Row (List Channels))) (layer : LayerRow) (ys : List (Row (List Channels)))
      (before : NonePasses (λ r. r.layer.id == layer.id) xs)
      (after : NonePasses (λ r. r.layer.id == layer.id) ys) where
    put_one : (pixels : List Channels) (op : Draw) → IsPutOf layer.id op
        → draw (with_rows board (xs ++ holding layer pixels ∷ ys)) op
        ≡ with_rows board (xs ++ holding layer (paint pixels op) ∷ ys)
    put_one pixels (draws.PutTile id col row repeat content) is =
        let op : Draw = draws.PutTile id col row repeat content in
        let change = pixels_after board.width board.height op in
        let rows : List (Row (List Channels)) = xs ++ holding layer pixels ∷ ys in
        let same : (r : Row (List Channels)) → (r.layer.id == layer.id) ≡ false
        → with_change layer.id change r ≡ r = λ r away. rw away refl in
        let here : with_change layer.id change (holding layer pixels)
        ≡ holding layer (change pixels) = rw (eq-eqb layer.id layer.id refl) refl in
        ap (λ i. with_rows board (map (with_change i change) rows)) is
        ∙ ap (with_rows board)
        (map_one (λ r. r.layer.id == layer.id) (with_change layer.id change) same xs
        (holding layer pixels) ys before after
        ∙ ap (λ r. xs ++ r ∷ ys) here)
    put_one pixels _ is = absurd is

    pub put_each : (ops : List Draw) (pixels : List Channels) → All (IsPutOf layer.id) ops
        → fold draw (with_rows board (xs ++ holding layer pixels ∷ ys)) ops
        ≡ with_rows board (xs ++ holding layer (fold paint pixels ops) ∷ ys)
    put_each [] pixels each = refl
    put_each (op ∷ ops) pixels each =
        ap (λ b. fold draw b ops) (put_one pixels op (All-head (IsPutOf layer.id) op ops each))
        ∙ put_each ops (paint pixels op) (All-tail (IsPutOf layer.id) op ops each)

  -- ---- drawn on all rows

  -- the row without its pixels
  abbrev pub blank_row : Row (List Channels) → Row (List Channels)
  blank_row row = record { layer = row.layer; content = blank board row.layer }

  module _ (whole : IsBoard board) (has : HasPixels board) where
    distinct : IsDistinct ◌==◌ (map (λ (r : Row (List Channels)). r.layer.id) board.rows)
    distinct =
        subst (IsDistinct ◌==◌)
        (map-map (λ (l : LayerRow). l.id) (λ (r : Row (List Channels)). r.layer) board.rows)
        whole.tree.layers.distinct

    -- a row's tiles, put on it without its pixels
    fill_row : (xs : List (Row (List Channels))) (layer : LayerRow)
        (ys : List (Row (List Channels))) (content : Option (List Channels))
        → NonePasses (λ r. r.layer.id == layer.id) xs
        → NonePasses (λ r. r.layer.id == layer.id) ys
        → content_of board.rows layer.id ≡ content → is_some content ≡ not layer.group
        → ForSome content (λ pixels. length pixels ≡ board.width * board.height)
        → ForSome content (All IsPixel)
        → fold draw (with_rows board
        (xs ++ record { layer = layer; content = blank board layer } ∷ ys))
        (layer_puts board layer)
        ≡ with_rows board (xs ++ record { layer = layer; content = content } ∷ ys)
    fill_row xs layer ys None before after found kind long each =
        let group : layer.group ≡ true = not-false layer.group (sym kind) in
        rw group refl
    fill_row xs layer ys (Some pixels) before after found kind long each =
        let paints : layer.group ≡ false = not-true layer.group (sym kind) in
        let own : pixels_of board layer.id ≡ pixels =
        ap (λ (o : Option (List Channels)). unwrap_or o []) found in
        let puts = puts_of board.width board.height layer.id pixels in
        let empty : List Channels = canvas_of board.width board.height (λ x y. clear) in
        let puts_is : layer_puts board layer ≡ puts =
        ap (λ b. cond b []
        (puts_of board.width board.height layer.id (pixels_of board layer.id))) paints
        ∙ ap (puts_of board.width board.height layer.id) own in
        let blank_is : blank board layer ≡ Some empty =
        ap (λ b. cond (not b) (Some empty) None) paints in
        ap (fold draw (with_rows board
        (xs ++ record { layer = layer; content = blank board layer } ∷ ys))) puts_is
        ∙ ap (λ (o : Option (List Channels)).
        fold draw (with_rows board (xs ++ record { layer = layer; content = o } ∷ ys)) puts)
        blank_is
        ∙ put_each xs layer ys before after puts empty
        (puts_are board.width board.height layer.id pixels)
        ∙ ap (λ ps. with_rows board (xs ++ holding layer ps ∷ ys))
        (puts_give board.width board.height layer.id pixels (each pixels refl) (long pixels refl))

    pub fill_all : (prefix rest : List (Row (List Channels))) → board.rows ≡ prefix ++ rest
        → fold draw (with_rows board (prefix ++ map blank_row rest))
        (flat_map (layer_puts board) (layers_of rest))
        ≡ with_rows board (prefix ++ rest)
    fill_all prefix [] is = refl
    fill_all prefix (row ∷ rest) is =
        let number = λ (r : Row (List Channels)). r.layer.id in
        let ids : IsDistinct ◌==◌ (map number (prefix ++ row ∷ rest)) =
        subst (λ rs. IsDistinct ◌==◌ (map number rs)) is distinct in
        let before = before_away number prefix row rest ids in
        let after : NonePasses (λ r. r.layer.id == row.layer.id) (map blank_row rest) =
        All-map (λ (r : Row (List Channels)). (r.layer.id == row.layer.id) ≡ false) blank_row rest
        (after_away number prefix row rest ids) in
        let found : content_of board.rows row.layer.id ≡ row.content =
        All-middle (λ (r : Row (List Channels)). content_of board.rows r.layer.id ≡ r.content)
        prefix
        row rest
        (subst (λ rs. All (λ (r : Row (List Channels)).
        content_of board.rows r.layer.id ≡ r.content) rs) is
        (content_itself board.rows whole.tree.layers.distinct)) in
        let kind : is_some row.content ≡ not row.layer.group =
        All-middle (λ (r : Row (List Channels)). is_some r.content ≡ not r.layer.group) prefix row
        rest
        (subst (All (λ (r : Row (List Channels)). is_some r.content ≡ not r.layer.group)) is
        whole.tree.contents) in
        let long : Covers board.width board.height row =
        All-middle (Covers board.width board.height) prefix row rest
        (subst (All (Covers board.width board.height)) is whole.each) in
        let each : ForSome row.content (All IsPixel) =
        All-middle (λ (r : Row (List Channels)). ForSome r.content (All IsPixel)) prefix row rest
        (subst (All (λ (r : Row (List Channels)). ForSome r.content (All IsPixel))) is has) in
        let on : (prefix ++ row ∷ []) ++ rest ≡ prefix ++ row ∷ rest =
        append_assoc prefix (row ∷ []) rest in
        fold-append draw (with_rows board (prefix ++ blank_row row ∷ map blank_row rest))
        (layer_puts board row.layer) (flat_map (layer_puts board) (layers_of rest))
        ∙ ap (λ b. fold draw b (flat_map (layer_puts board) (layers_of rest)))
        (fill_row prefix row.layer (map blank_row rest) row.content before after found kind long
        each
        ∙ ap (with_rows board) (sym (append_assoc prefix (row ∷ []) (map blank_row rest))))
        ∙ fill_all (prefix ++ row ∷ []) rest (is ∙ sym on)
        ∙ ap (with_rows board) on
