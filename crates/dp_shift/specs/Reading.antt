-- Commands that read a grid at other places than those that they change.
use Rattle.std.specs.Prelude.{◌≡◌, ℕ, ◌+◌, ◌-◌, ◌*◌, ◌≤◌, ℤ, pos, ◌+ℤ◌, ◌-ℤ◌, List, length}
use Rattle.std.specs.Prelude.{map, if◌then◌else◌, ⊤}
use Rattle.dp_blend.specs.Color.{Channels, clear}
use Rattle.dp_blend.specs.Blending.{blend}
use Rattle.dp_blend.specs.declared.modes.Mode.TheVariants.{Normal}
use Rattle.dp_blend.specs.Canvas.{below, canvas_of}
use Rattle.dp_blend.proofs.Canvas.{length-canvas_of}
use Rattle.dp_msg_draw.specs.declared.draw.Draw.{Draw}
use Rattle.dp_msg_draw.specs.declared.draw.Draw.TheVariants.{MoveRect}
use Rattle.dp_pixels.specs.Commands.{pixel_of}
use Rattle.dp_pixels.specs.Rectangles.{is_in}
use Rattle.dp_pixels.specs.declared.rect.Rect.{Rect}
use Rattle.dp_pixels.specs.declared.resize.Resize.{Resize}
use Rattle.dp_pixels.specs.Resizes.{pixels_resized}
use Rattle.dp_tile.specs.declared.area.CellArea.{CellArea}
use Rattle.dp_tile.specs.Areas.{IsPaintedOn}
use Rattle.dp_tile.specs.Tiles.{TileGrid, grid_pixels}
use Rattle.dp_shift.specs.Grids.{IsGridOf}

-- MoveRect
abbrev pub IsMove : Draw → Type 0
IsMove (MoveRect layer sx sy w h tx ty) = ⊤
IsMove _ = ⊥

-- the pixel at a place of a canvas whose tiles are those of a grid, clear past the canvas
abbrev pub shown : ℕ → ℕ → TileGrid → ℤ → ℤ → Channels
shown width height g = pixel_of width height (grid_pixels width height g)

-- a grid is what a resize makes of another one
pub record IsResized (r : Resize) (old new : TileGrid) : Type 0 where
  pub of : IsGridOf r.new_width r.new_height new
  pub pixels : grid_pixels r.new_width r.new_height new
      ≡ pixels_resized r (grid_pixels r.width r.height old)

-- ---- in the words of the code

-- `count` pixels of a row, from a place on, of pixels at all places
abbrev pub row_from : (ℤ → ℤ → Channels) → ℤ → ℤ → ℕ → List Channels
row_from pixel x y count = map (λ i. pixel (x +ℤ pos i) y) (below count)

-- the pixels of the tile at a column and a row, of pixels at all places
unfoldable pub tile_from : (ℤ → ℤ → Channels) → ℕ → ℕ → List Channels
tile_from pixel col row =
    canvas_of 64 64 (λ i j. pixel (pos (col * 64 + i)) (pos (row * 64 + j)))

-- pixels at all places, clear in a rectangle
abbrev pub cleared : Rect → (ℤ → ℤ → Channels) → ℤ → ℤ → Channels
cleared source pixel x y = if is_in source x y then clear else pixel x y

-- the pixel i of a row, on which the old one i places after a place is blended, if that is in a
-- rectangle
abbrev pub lifted : Rect → ℤ → ℤ → (ℤ → ℤ → Channels) → (ℕ → Channels) → ℕ → Channels
lifted source x y old under i =
    if is_in source (x +ℤ pos i) y then blend Normal (old (x +ℤ pos i) y) (under i) else under i

-- pixels at all places, on which those in a rectangle are blended where they move to
abbrev pub laid : Rect → ℤ → ℤ → (ℤ → ℤ → Channels) → (ℤ → ℤ → Channels) → ℤ → ℤ → Channels
laid source right down old under x y =
    if is_in source (x -ℤ right) (y -ℤ down)
    then blend Normal (old (x -ℤ right) (y -ℤ down)) (under x y)
    else under x y

-- the rectangle, moved so far
abbrev pub shifted : Rect → ℤ → ℤ → Rect
shifted r right down =
    record {
      x0 = r.x0 +ℤ right;
      y0 = r.y0 +ℤ down;
      x1 = r.x1 +ℤ right;
      y1 = r.y1 +ℤ down;
    }

-- pixels at all places, after those in a rectangle moved so far
abbrev pub moved_part : Rect → ℤ → ℤ → (ℤ → ℤ → Channels) → ℤ → ℤ → Channels
moved_part source right down old = laid source right down old (cleared source old)

-- the area is one of cells of a grid
pub record IsAreaOf (g : TileGrid) (area : CellArea) : Type 0 where
  pub across : area.left ≤ area.right
  pub down : area.top ≤ area.bottom
  pub cols : area.right ≤ g.cols
  pub rows : area.bottom ≤ g.rows

-- how many cells an area has
abbrev pub cells_of : CellArea → ℕ
cells_of area = (area.bottom - area.top) * (area.right - area.left)

-- the cells of two areas became tiles of pixels at all places, those of the one and then those of
-- the other
pub record ArePainted (from to : CellArea) (pixel : ℤ → ℤ → Channels) (old new : TileGrid)
    : Type 0 where
  pub between : TileGrid
  pub first : IsPaintedOn from (λ col row _. tile_from pixel col row) old between
  pub second : IsPaintedOn to (λ col row _. tile_from pixel col row) between new

-- a tile of pixels at all places has 4096 pixels
pub length-tile_from : (pixel : ℤ → ℤ → Channels) (col row : ℕ)
    → length (tile_from pixel col row) ≡ 4096
unfolding tile_from
length-tile_from pixel col row =
    length-canvas_of 64 64 (λ i j. pixel (pos (col * 64 + i)) (pos (row * 64 + j)))
