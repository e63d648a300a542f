-- What each drawing command makes of the board. A command that isn't given an effect leaves it as
-- it is.
use Rattle.std.specs.Prelude.{ℕ, ℤ, pos, ◌+ℤ◌, Bool, true, ◌&&◌, ◌==◌}
use Rattle.std.specs.Prelude.{if◌then◌else◌, Option, None, Some, option_map}
use Rattle.std.specs.Prelude.{List, map, ⊤}
use Rattle.std.specs.List.{fold}
use Rattle.std.specs.Option.{option_map_or}
use Rattle.dp_blend.specs.Color.{Channels, clear}
use Rattle.dp_blend.specs.Canvas.{canvas_of}
use Rattle.dp_msg_draw.specs.declared.draw.Draw.{Draw}
use Rattle.dp_msg_draw.specs.declared.draw.Draw.TheVariants as draws
use Rattle.dp_layers.specs.Layers.{is_paint_row}
use Rattle.dp_layers.specs.Rows.{Row, layers_of, map_contents}
use Rattle.dp_layers.specs.Changes.{has_effect, makes_paint_row, rows_after}
use Rattle.dp_pixels.specs.Commands.{pixels_after}
use Rattle.dp_pixels.specs.Resizes.{is_side, side, pixels_shifted}
use Rattle.dp_plain.specs.Board.{Board}

-- the board with these sides, each paint row with what change makes of its pixels
abbrev pub with_sides : Board → ℕ → ℕ → (List Channels → List Channels) → Board
with_sides board width height change =
    record board { width = width; height = height; rows = map_contents change board.rows }

-- CanvasResize: the canvas with the new sides, if both are sides
abbrev pub resized : Board → ℤ → ℤ → ℤ → ℤ → Board
resized board top right bottom left =
    let width = pos board.width +ℤ left +ℤ right in
    let height = pos board.height +ℤ top +ℤ bottom in
    if is_side width && is_side height
    then with_sides board (side width) (side height) (λ pixels.
    pixels_shifted board.width board.height pixels (side width) (side height) left top)
    else board

-- what a new row holds: clear pixels for each place, if it is a paint row
abbrev pub new_content : Board → Draw → Option (List Channels)
new_content board op =
    if makes_paint_row op then Some (canvas_of board.width board.height (λ x y. clear)) else None

-- the commands on layers
abbrev pub arranged : Board → Draw → Board
arranged board op = record board { rows = rows_after board.rows op (new_content board op) }

-- the row, with what change makes of its pixels if it has the id; a group has none
abbrev pub with_change : ℕ → (List Channels → List Channels)
    → Row (List Channels) → Row (List Channels)
with_change id change row =
    if row.layer.id == id then record row { content = option_map change row.content } else row

-- the id of the layer whose pixels a command changes
abbrev pub painted_layer : Draw → Option ℕ
painted_layer (draws.PutImage layer mode x y w h colors) = Some layer
painted_layer (draws.FillRect layer mode x y w h color) = Some layer
painted_layer (draws.PutTile layer col row repeat content) = Some layer
painted_layer (draws.DabsRound layer x y r g b mode dabs) = Some layer
painted_layer (draws.DabsSquare layer x y r g b mode dabs) = Some layer
painted_layer (draws.MoveRect layer sx sy w h tx ty) = Some layer
painted_layer _ = None

-- the commands on pixels: those of the layer of the id become what the command makes of them
abbrev pub painted : Board → Draw → ℕ → Board
painted board op id = record board {
  rows = map (with_change id (pixels_after board.width board.height op)) board.rows;
}

-- the commands on layers that make no row
abbrev pub IsArranging : Draw → Type 0
IsArranging (draws.LayerAttr id opacity mode hidden) = ⊤
IsArranging (draws.LayerTitle id title) = ⊤
IsArranging (draws.LayerMove id parent above) = ⊤
IsArranging (draws.LayerDelete id) = ⊤
IsArranging _ = ⊥

-- the board after the command
abbrev pub draw : Board → Draw → Board
draw board (draws.CanvasResize top right bottom left) = resized board top right bottom left
draw board (draws.Background color) = record board { background = color }
draw board op = option_map_or (painted board op) (painted_layer op) (arranged board op)

-- the commands drawn one after the other
abbrev pub draw_all : Board → List Draw → Board
draw_all board commands = fold draw board commands

-- The board takes the command up. It is a resize to sides, a background, or a command on layers
-- that has an effect on the rows. Or it is one on the pixels of a paint layer that is present.
abbrev pub is_accepted : Board → Draw → Bool
is_accepted board (draws.CanvasResize top right bottom left) =
    is_side (pos board.width +ℤ left +ℤ right) && is_side (pos board.height +ℤ top +ℤ bottom)
is_accepted board (draws.Background color) = true
is_accepted board op =
    option_map_or (is_paint_row (layers_of board.rows)) (painted_layer op)
    (has_effect (layers_of board.rows) op)
