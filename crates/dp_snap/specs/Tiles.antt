-- The tiles of a layer, as a snapshot puts them.
use Rattle.std.specs.Prelude.{ℕ, ◌+◌, ◌*◌, ◌-◌, pos, min, Bool, ◌&&◌, ◌==◌, if◌then◌else◌}
use Rattle.std.specs.Prelude.{Option, None, Some, List, map}
use Rattle.std.specs.List.{list_all}
use Rattle.dp_blend.specs.Color.{Channels, clear}
use Rattle.dp_blend.specs.Canvas.{canvas_of, pixel_at}
use Rattle.dp_msg_draw.specs.declared.draw.TileContent.{TileContent}
use Rattle.dp_msg_draw.specs.declared.draw.TileContent.TheVariants.{Solid, Pixels}
use Rattle.dp_msg_draw.specs.declared.lists.TilePixel.{TilePixel}
use Rattle.dp_pixels.specs.Commands.{pixel_of}

-- the four numbers of the pixels are equal
abbrev pub is_same : Channels → Channels → Bool
is_same p q = p.r == q.r && p.g == q.g && p.b == q.b && p.a == q.a

-- the pixel as a message has it
abbrev pub tile_pixel : Channels → TilePixel
tile_pixel p = record { r = p.r; g = p.g; b = p.b; a = p.a }

-- the 4096 pixels of the tile at a column and a row of a canvas, row by row, clear past the canvas
abbrev pub pixels_of_tile : ℕ → ℕ → List Channels → ℕ → ℕ → List Channels
pixels_of_tile width height pixels col row =
    canvas_of 64 64 (λ x y. pixel_of width height pixels (pos (col * 64 + x)) (pos (row * 64 + y)))

-- How many of the 64 columns of a tile are on the canvas, by its width and the number of the tile's
-- column. Or how many of the 64 rows, by its height and the number of the tile's row.
abbrev pub shown_of : ℕ → ℕ → ℕ
shown_of side number = min 64 (side - number * 64)

-- the pixels of a tile that are on the canvas, if its first `cols` columns and `rows` rows are
abbrev pub on_canvas : ℕ → ℕ → List Channels → List Channels
on_canvas cols rows tile = canvas_of cols rows (pixel_at 64 tile)

-- What is put into a tile of these pixels. If those on the canvas are equal, it is that one pixel,
-- or nothing if it is clear; else it is each of the 4096.
abbrev pub content_of_tile : ℕ → ℕ → List Channels → Option TileContent
content_of_tile cols rows tile =
    let corner = pixel_at 64 tile 0 0 in
    if list_all (is_same corner) (on_canvas cols rows tile)
    then (if is_same clear corner then None else Some (Solid (tile_pixel corner)))
    else Some (Pixels (map tile_pixel tile))
