-- A tile is a square of 64 by 64 pixels, seen as their list: row by row from the top, each row from
-- the left. A grid is tiles in columns and rows.
use Rattle.std.specs.Prelude.{◌≡◌, ℕ, ◌+◌, ◌*◌, ◌/◌, ◌%◌, ◌≤◌, List, length, replicate}
use Rattle.std.specs.Prelude.{[], map, slice_index_or, slice_set, All, Option, Some, None, Bool}
use Rattle.std.specs.Prelude.{not, ◌==◌, ◌&&◌, count_by, if◌then◌else◌}
use Rattle.std.specs.List.{flat_map, list_any}
use Rattle.std.specs.Option.{ForSome}
use Rattle.dp_blend.specs.Color.{Channels, clear}
use Rattle.dp_blend.specs.Canvas.{below, canvas_of, pixel_at}

-- the pixels of a tile of one colour
unfoldable pub tile_of : Channels → List Channels
tile_of p = replicate 4096 p

-- if there is a colour, all these pixels are of it
abbrev pub IsOfColor : Option Channels → List Channels → Type 0
IsOfColor color pixels = ForSome color (λ p. pixels ≡ tile_of p)

-- the pixels of a tile that is of one colour, if one is given, and else has these
abbrev pub tile_pixels : Option Channels → List Channels → List Channels
tile_pixels (Some p) pixels = tile_of p
tile_pixels None pixels = pixels

-- a tile has room for its 4096 pixels, and holds them if it isn't of one colour
pub record IsTile (color : Option Channels) (room : ℕ) (held : List Channels) : Type 0 where
  pub enough : 4096 ≤ room
  pub count : length (tile_pixels color held) ≡ 4096

-- tiles in columns and rows: row by row from the top, each row from the left. Each cell is the list
-- of its pixels, so the value doesn't tell a tile that isn't there from a clear one.
pub record TileGrid : Type 0 where
  pub cols : ℕ
  pub rows : ℕ
  pub cells : List (List Channels)

-- a grid has at most 64 columns and 64 rows, a cell for each place, and 4096 pixels in each cell
pub record IsGrid (g : TileGrid) : Type 0 where
  pub cols : g.cols ≤ 64
  pub rows : g.rows ≤ 64
  pub cells : length g.cells ≡ g.cols * g.rows
  pub pixels : All (λ cell. length cell ≡ 4096) g.cells

-- a row of `cols` cells, with 4096 pixels in each
pub record IsCellRow (cols : ℕ) (row : List (List Channels)) : Type 0 where
  pub cells : length row ≡ cols
  pub pixels : All (λ cell. length cell ≡ 4096) row

-- `rows` rows of cells, each of `cols` columns
pub record IsCellRows (cols rows : ℕ) (all : List (List (List Channels))) : Type 0 where
  pub few_cols : cols ≤ 64
  pub few_rows : rows ≤ 64
  pub count : length all ≡ rows
  pub each : All (IsCellRow cols) all

-- the grid of these rows of cells
abbrev pub grid_of_rows : ℕ → ℕ → List (List (List Channels)) → TileGrid
grid_of_rows cols rows all =
    record { cols = cols; rows = rows; cells = flat_map (λ row. row) all }

-- the rows with this cell at a column and a row
abbrev pub with_cell_in_rows : List (List (List Channels)) → ℕ → ℕ → List Channels
    → List (List (List Channels))
with_cell_in_rows all col row pixels =
    slice_set all row (slice_set (slice_index_or all row []) col pixels)

-- the grid of these sides that shows nothing
abbrev pub clear_grid : ℕ → ℕ → TileGrid
clear_grid cols rows =
    record { cols = cols; rows = rows; cells = replicate (cols * rows) (tile_of clear) }

-- the pixels of the cell at a column and a row
abbrev pub cell_at : TileGrid → ℕ → ℕ → List Channels
cell_at g col row = slice_index_or g.cells (row * g.cols + col) (tile_of clear)

-- the grid with these pixels in the cell at a column and a row
abbrev pub with_cell : TileGrid → ℕ → ℕ → List Channels → TileGrid
with_cell g col row pixels =
    record {
      cols = g.cols;
      rows = g.rows;
      cells = slice_set g.cells (row * g.cols + col) pixels;
    }

-- the pixel at a place of a grid
abbrev pub grid_pixel : TileGrid → ℕ → ℕ → Channels
grid_pixel g x y = pixel_at 64 (cell_at g (x / 64) (y / 64)) (x % 64) (y % 64)

-- the pixels of a canvas of this width and height whose tiles are those of a grid
abbrev pub grid_pixels : ℕ → ℕ → TileGrid → List Channels
grid_pixels width height g = canvas_of width height (grid_pixel g)

-- `count` pixels of the row y of a grid, from x on
abbrev pub part_of_grid : TileGrid → ℕ → ℕ → ℕ → List Channels
part_of_grid g x y count = map (λ i. grid_pixel g (x + i) y) (below count)

-- ---- what shows

-- a pixel of a cell isn't clear
abbrev pub shows : List Channels → Bool
shows cell = list_any (λ p. not (p.r == 0 && p.g == 0 && p.b == 0 && p.a == 0)) cell

-- the tiles that a cell needs: one if it shows something
abbrev pub tiles_for : List Channels → ℕ
tiles_for cell = if shows cell then 1 else 0

-- how many cells of a grid show something
abbrev pub cells_shown : TileGrid → ℕ
cells_shown g = count_by shows g.cells
