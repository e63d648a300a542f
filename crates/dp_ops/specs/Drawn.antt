-- What a command draws on one tile.
use Rattle.std.specs.Prelude.{◌≡◌, ℕ, ◌+◌, ◌*◌, ◌<◌, pos, true, List, length}
use Rattle.dp_blend.specs.Color.{Channels}
use Rattle.dp_blend.specs.Canvas.{canvas_of, pixel_at}
use Rattle.dp_blend.proofs.Canvas.{length-canvas_of}
use Rattle.dp_msg_draw.specs.declared.draw.Draw.{Draw}
use Rattle.dp_pixels.specs.declared.rect.Rect.{Rect}
use Rattle.dp_pixels.specs.Commands.{pixel_drawn}
use Rattle.dp_pixels.specs.Rectangles.{canvas_rect, is_in}

-- the pixels of the tile at a column and a row after a command other than MoveRect
unfoldable pub tile_drawn : ℕ → ℕ → Draw → ℕ → ℕ → List Channels → List Channels
tile_drawn width height op col row pixels =
    canvas_of 64 64
    (λ i j.
    pixel_drawn width height op (pos (col * 64 + i)) (pos (row * 64 + j)) (pixel_at 64 pixels i j))

-- each place of the tile at a column and a row is in the rectangle and on the canvas
abbrev pub IsTileWithin : ℕ → ℕ → Rect → ℕ → ℕ → Type 0
IsTileWithin width height area col row =
    (i j : ℕ) → i < 64 → j < 64
    → (is_in area (pos (col * 64 + i)) (pos (row * 64 + j)) ≡ true)
    × (is_in (canvas_rect width height) (pos (col * 64 + i)) (pos (row * 64 + j)) ≡ true)

-- a tile has 4096 pixels after a command
pub length-tile_drawn : (width height : ℕ) (op : Draw) (col row : ℕ) (pixels : List Channels)
    → length (tile_drawn width height op col row pixels) ≡ 4096
unfolding tile_drawn
length-tile_drawn width height op col row pixels =
    length-canvas_of 64 64 (λ i j. pixel_drawn width height op (pos (col * 64 + i))
    (pos (row * 64 + j)) (pixel_at 64 pixels i j))
