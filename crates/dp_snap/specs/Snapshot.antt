-- The snapshot of a board: commands that draw it on the empty board.
use Rattle.std.specs.Prelude.{ℕ, pos, Bool, not, ◌&&◌, ◌==◌, if◌then◌else◌}
use Rattle.std.specs.Prelude.{List, [], ◌∷◌, ◌++◌, map}
use Rattle.std.specs.List.{flat_map}
use Rattle.std.specs.Option.{option_map_or}
use Rattle.dp_blend.specs.Color.{Channels}
use Rattle.dp_blend.specs.Canvas.{below}
use Rattle.dp_msg_draw.specs.declared.draw.Draw.{Draw}
use Rattle.dp_msg_draw.specs.declared.draw.Draw.TheVariants as draws
use Rattle.dp_layers.specs.declared.row.LayerRow.{LayerRow}
use Rattle.dp_layers.specs.Rows.{layers_of}
use Rattle.dp_pixels.specs.Tiles.{tiles_along}
use Rattle.dp_plain.specs.Board.{Board}
use Rattle.dp_plain.specs.Picture.{pixels_of}
use Rattle.dp_snap.specs.Tiles.{pixels_of_tile, shown_of, content_of_tile}

-- CanvasResize of the empty canvas to the sides, if they aren't 0
abbrev pub side_commands : Board → List Draw
side_commands board =
    if board.width == 0
    then []
    else draws.CanvasResize (pos 0) (pos board.width) (pos board.height) (pos 0) ∷ []

-- Background, if it isn't 0
abbrev pub background_commands : Board → List Draw
background_commands board =
    if board.background == 0 then [] else draws.Background board.background ∷ []

-- LayerCreate of a row, at the root
abbrev pub create_of : LayerRow → Draw
create_of row = draws.LayerCreate row.id 0 row.group row.title

-- LayerMove of each row that isn't at the root into its parent, directly after the row before it in
-- the list. That row's id is `above` (0 for the first row).
abbrev pub moves_after : ℕ → List LayerRow → List Draw
moves_after above [] = []
moves_after above (row ∷ rows) =
    (if row.parent == 0 then [] else draws.LayerMove row.id row.parent above ∷ [])
    ++ moves_after row.id rows

-- the row is as LayerCreate makes one: opaque, of the mode normal, and not hidden
abbrev pub is_as_created : LayerRow → Bool
is_as_created row = row.opacity == 255 && row.mode == 1 && not row.hidden

-- LayerAttr of a row that is not
abbrev pub attrs_of : LayerRow → List Draw
attrs_of row =
    if is_as_created row
    then []
    else draws.LayerAttr row.id row.opacity row.mode row.hidden ∷ []

-- PutTile of the tile at a column and a row of a layer with these pixels, if it isn't clear
abbrev pub put_of_tile : ℕ → ℕ → ℕ → List Channels → ℕ → ℕ → List Draw
put_of_tile width height id pixels row col =
    option_map_or (λ content. draws.PutTile id col row 0 content ∷ [])
    (content_of_tile (shown_of width col) (shown_of height row)
    (pixels_of_tile width height pixels col row)) []

-- PutTile of the tiles of a layer with these pixels, by their numbers
abbrev pub puts_of : ℕ → ℕ → ℕ → List Channels → List Draw
puts_of width height id pixels =
    flat_map (λ row. flat_map (put_of_tile width height id pixels row) (below (tiles_along width)))
    (below (tiles_along height))

-- those of a row of the board; a group has none
abbrev pub layer_puts : Board → LayerRow → List Draw
layer_puts board row =
    if row.group then [] else puts_of board.width board.height row.id (pixels_of board row.id)

-- The commands. First the sides and the background. Then the rows in the order of the list, each at
-- the root, and then each in its place. Last, how they show, and the tiles of the paint rows.
abbrev pub snapshot : Board → List Draw
snapshot board =
    side_commands board ++ background_commands board ++ map create_of (layers_of board.rows)
    ++ moves_after 0 (layers_of board.rows) ++ flat_map attrs_of (layers_of board.rows)
    ++ flat_map (layer_puts board) (layers_of board.rows)
