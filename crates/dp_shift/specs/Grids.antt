-- Grids of the tiles of a canvas, and rectangles on them.
use Rattle.std.specs.Prelude.{◌≡◌, ℕ, ◌<◌, ◌≤◌, pos, ◌≤ℤ◌, unsigned_abs, ◌^◌}
use Rattle.dp_pixels.specs.declared.rect.Rect.{Rect}
use Rattle.dp_pixels.specs.Tiles.{tiles_along}
use Rattle.dp_tile.specs.Tiles.{TileGrid}

-- the grid has the tiles of a canvas of this width and height
pub record IsGridOf (width height : ℕ) (g : TileGrid) : Type 0 where
  pub wide : width ≤ 4096
  pub high : height ≤ 4096
  pub cols : g.cols ≡ tiles_along width
  pub rows : g.rows ≡ tiles_along height

-- no number of the rectangle is on the wrong side of the greatest canvas
pub record IsOnGreatest (r : Rect) : Type 0 where
  pub left : pos 0 ≤ℤ r.x0
  pub top : pos 0 ≤ℤ r.y0
  pub right : r.x1 ≤ℤ pos 4096
  pub bottom : r.y1 ≤ℤ pos 4096

-- the numbers of the rectangle are so near that sums of them fit in 64 bits
pub record IsNear (r : Rect) : Type 0 where
  pub left : unsigned_abs r.x0 < 2 ^ 38
  pub top : unsigned_abs r.y0 < 2 ^ 38
  pub right : unsigned_abs r.x1 < 2 ^ 38
  pub bottom : unsigned_abs r.y1 < 2 ^ 38
