-- Tiles of a grid that show the pixels of a layer.
use Rattle.std.proofs.Common.{◌≡◌, ℕ, List, [], refl, sym}
use Rattle.std.specs.Prelude.{Option, Some, None, IfSome, IfNone}
use Rattle.dp_blend.specs.Color.{Channels}
use Rattle.dp_pixels.specs.Tiles.{ShowsTile}
use Rattle.dp_tile.specs.Tiles.{IsOfColor, TileGrid, cell_at, grid_pixels, tile_of}
use Rattle.dp_tile.specs.Tiles.{tile_pixels}
use Rattle.dp_paint.proofs.Layers.{shows_grid}

-- a tile that was read has the pixels of its cell
is_cell : (color : Option Channels) (pixels cell : List Channels)
    → IfSome color (λ p. cell ≡ tile_of p) → IfNone color (pixels ≡ cell)
    → tile_pixels color pixels ≡ cell
is_cell (Some p) pixels cell some none = sym some
is_cell None pixels cell some none = none

-- it shows the layer
pub shown_tile : (width height : ℕ) (g : TileGrid) (col row : ℕ) (color : Option Channels)
    (pixels : List Channels)
    → IfSome color (λ p. cell_at g col row ≡ tile_of p)
    → IfNone color (pixels ≡ cell_at g col row)
    → ShowsTile width height (grid_pixels width height g) col row color pixels
shown_tile width height g col row color pixels some none =
    shows_grid width height g col row color pixels
    (is_cell color pixels (cell_at g col row) some none)

-- and so does its colour, if it is known
pub shown_color : (width height : ℕ) (g : TileGrid) (col row : ℕ) (color : Option Channels)
    → IsOfColor color (cell_at g col row)
    → IfSome color (λ p.
    ShowsTile width height (grid_pixels width height g) col row (Some p) [])
shown_color width height g col row (Some p) is =
    shown_tile width height g col row (Some p) [] (is p refl) tt
shown_color width height g col row None is = tt
