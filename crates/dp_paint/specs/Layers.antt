-- Layers on whose tiles operations wait.
use Rattle.std.specs.Prelude.{◌≡◌, ℕ, ◌/◌, ◌%◌, ◌<◌, List, [], ◌++◌, ◌⊎◌}
use Rattle.dp_blend.specs.Color.{Channels}
use Rattle.dp_blend.specs.Canvas.{canvas_of}
use Rattle.dp_msg_draw.specs.declared.draw.Draw.{Draw}
use Rattle.dp_tile.specs.Tiles.{TileGrid, grid_pixel}
use Rattle.dp_ops.specs.Ops.{on_tile, ops_at}
use Rattle.dp_ops.specs.Lists.{Lists, listed_at}

-- the pixels of a layer on a canvas of these sides
pub record LayerOf : Type 0 where
  pub width : ℕ
  pub height : ℕ
  pub pixels : List Channels

-- The pixel at a place of a grid on a canvas of these sides, after all that waits on its tile.
-- These commands are the numbered ones.
abbrev pub waiting_pixel : ℕ → ℕ → List Draw → Lists → TileGrid → ℕ → ℕ → Channels
waiting_pixel width height commands lists g x y =
    ops_at (on_tile width height commands (x / 64) (y / 64)) (listed_at lists (x / 64) (y / 64))
    (x % 64) (y % 64) (grid_pixel g x y)

-- the pixels of the canvas, after all that waits on its tiles
abbrev pub layer_pixels : ℕ → ℕ → List Draw → Lists → TileGrid → List Channels
layer_pixels width height commands lists g =
    canvas_of width height (waiting_pixel width height commands lists g)

-- what waits on the tiles of a canvas of these sides names none but these commands: it is the same
-- if more come after them
abbrev pub NamesThese : ℕ → ℕ → List Draw → Lists → Type 0
NamesThese width height commands lists =
    (more : List Draw) (x y : ℕ) (p : Channels) → x < width → y < height
    → ops_at (on_tile width height (commands ++ more) (x / 64) (y / 64))
    (listed_at lists (x / 64) (y / 64)) (x % 64) (y % 64) p
    ≡ ops_at (on_tile width height commands (x / 64) (y / 64))
    (listed_at lists (x / 64) (y / 64)) (x % 64) (y % 64) p

-- ---- in the words of the code

-- on each tile none waits, or the same as before
abbrev pub HaveSome : Lists → Lists → Type 0
HaveSome old new =
    (col row : ℕ) → col < 64 → row < 64
    → (listed_at new col row ≡ []) ⊎ (listed_at new col row ≡ listed_at old col row)
