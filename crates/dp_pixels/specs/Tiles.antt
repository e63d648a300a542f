-- The tiles of a canvas, of 64 by 64 pixels, and what PutTile makes of its pixels.
use Rattle.std.specs.Prelude.{◌≡◌, ℕ, ◌+◌, ◌*◌, ◌/◌, ◌%◌, ◌<◌, nat_lt, nat_le, ◌==◌, ℤ, pos}
use Rattle.std.specs.Prelude.{unsigned_abs, Bool, ◌&&◌, if◌then◌else◌}
use Rattle.std.specs.Prelude.{Option, Some, None, List, slice_get, slice_index_or}
use Rattle.std.specs.Option.{option_map_or}
use Rattle.dp_blend.specs.Color.{Channels, clear}
use Rattle.dp_blend.specs.Canvas.{pixel_at}
use Rattle.dp_msg_draw.specs.declared.draw.TileContent.{TileContent}
use Rattle.dp_msg_draw.specs.declared.draw.TileContent.TheVariants.{Solid, Pixels}
use Rattle.dp_msg_draw.specs.declared.lists.TilePixel.{TilePixel}
use Rattle.dp_pixels.specs.declared.rect.Rect.{Rect}

-- how many tiles it takes to cover a side
abbrev pub tiles_along : ℕ → ℕ
tiles_along side = (side + 63) / 64

-- the number of the tile at a column and a row of a canvas of this width: tiles are numbered from
-- 0, row by row
abbrev pub tile_number : ℕ → ℕ → ℕ → ℕ
tile_number width col row = row * tiles_along width + col

-- The tile of a place is the tile (col, row), or one of the `repeat` tiles with the numbers after
-- that. If the tile (col, row) isn't on the canvas, none is.
abbrev pub is_in_tiles : ℕ → ℕ → ℕ → ℕ → ℕ → ℕ → ℕ → Bool
is_in_tiles width height col row repeat x y =
    let first = tile_number width col row in
    let number = tile_number width (x / 64) (y / 64) in
    nat_lt col (tiles_along width) && nat_lt row (tiles_along height)
    && nat_le first number && nat_le number (first + repeat)

-- the pixel of the content at a place: a tile's pixels stand row by row
abbrev pub content_at : TileContent → ℕ → ℕ → Option TilePixel
content_at (Solid pixel) x y = Some pixel
content_at (Pixels pixels) x y = slice_get pixels (y % 64 * 64 + x % 64)

-- no channel is above alpha, and alpha is at most one; so it is in each message that has a payload
abbrev pub is_tile_pixel : TilePixel → Bool
is_tile_pixel p = nat_le p.r p.a && nat_le p.g p.a && nat_le p.b p.a && nat_le p.a 32768

-- a tile's pixel takes the place of the old one, if it is a pixel
abbrev pub replaced_by : TilePixel → Channels → Channels
replaced_by p old = if is_tile_pixel p then record { r = p.r; g = p.g; b = p.b; a = p.a } else old

-- the pixel at a place of the canvas after PutTile
abbrev pub tile_put : ℕ → ℕ → ℕ → ℕ → ℕ → TileContent → ℕ → ℕ → Channels → Channels
tile_put width height col row repeat content x y old =
    if is_in_tiles width height col row repeat x y
    then option_map_or (λ p. replaced_by p old) (content_at content x y) old
    else old

-- the pixel after PutTile at a place of whole numbers
abbrev pub tile_changed : ℕ → ℕ → ℕ → ℕ → ℕ → TileContent → ℤ → ℤ → Channels → Channels
tile_changed width height col row repeat content x y old =
    tile_put width height col row repeat content (unsigned_abs x) (unsigned_abs y) old

-- the places of the tiles from a first one on, `repeat` further ones included: part of one row of
-- tiles, or whole rows
abbrev pub tiles_rect : ℕ → ℕ → ℕ → ℕ → Rect
tiles_rect width col row repeat =
    let last = (tile_number width col row + repeat) / tiles_along width in
    if last == row
    then record {
      x0 = pos (col * 64);
      y0 = pos (row * 64);
      x1 = pos ((col + repeat + 1) * 64);
      y1 =
          pos ((last + 1) * 64);
    }
    else record { x0 = pos 0; y0 = pos (row * 64); x1 = pos width; y1 = pos ((last + 1) * 64) }

-- ---- a tile that was read

-- the column and the row of the canvas at which the k-th pixel of a tile is
abbrev pub tile_x : ℕ → ℕ → ℕ
tile_x col k = col * 64 + k % 64

abbrev pub tile_y : ℕ → ℕ → ℕ
tile_y row k = row * 64 + k / 64

-- the k-th pixel of a tile, if all of them are of one colour, if one is given, and else are
-- these
abbrev pub tile_pixel : Option Channels → List Channels → ℕ → Channels
tile_pixel (Some color) pixels k = color
tile_pixel None pixels k = slice_index_or pixels k clear

-- the tile at a column and a row, given so, shows the pixels of a canvas of these sides, as far as
-- that goes
abbrev pub ShowsTile : ℕ → ℕ → List Channels → ℕ → ℕ → Option Channels → List Channels → Type 0
ShowsTile width height all col row color pixels =
    (k : ℕ) → k < 4096 → tile_x col k < width → tile_y row k < height
    → tile_pixel color pixels k ≡ pixel_at width all (tile_x col k) (tile_y row k)
