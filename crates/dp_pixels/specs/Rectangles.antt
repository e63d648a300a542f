-- Rectangles of places. A place is a pair of whole numbers, x from the left and y from the top.
use Rattle.std.specs.Prelude.{ℕ, ℤ, pos, ◌+ℤ◌, Bool, ◌&&◌, int_lt, int_le}
use Rattle.std.specs.Int.{int_max, int_min}
use Rattle.dp_pixels.specs.declared.rect.Rect.{Rect}

-- the place is in the rectangle
abbrev pub is_in : Rect → ℤ → ℤ → Bool
is_in r x y = int_le r.x0 x && int_lt x r.x1 && int_le r.y0 y && int_lt y r.y1

-- the rectangle with its left upper corner at a place, w wide and h high
abbrev pub rect_at : ℤ → ℤ → ℕ → ℕ → Rect
rect_at x y w h = record { x0 = x; y0 = y; x1 = x +ℤ pos w; y1 = y +ℤ pos h }

-- the places that are in both rectangles
abbrev pub clipped : Rect → Rect → Rect
clipped a b =
    record {
      x0 = int_max a.x0 b.x0;
      y0 = int_max a.y0 b.y0;
      x1 = int_min a.x1 b.x1;
      y1 = int_min a.y1 b.y1;
    }

-- some place is in both rectangles
abbrev pub share_place : Rect → Rect → Bool
share_place a b =
    int_lt (int_max a.x0 b.x0) (int_min a.x1 b.x1) && int_lt (int_max a.y0 b.y0) (int_min a.y1 b.y1)

-- the least rectangle that has the places of both
abbrev pub joined : Rect → Rect → Rect
joined a b =
    record {
      x0 = int_min a.x0 b.x0;
      y0 = int_min a.y0 b.y0;
      x1 = int_max a.x1 b.x1;
      y1 = int_max a.y1 b.y1;
    }

-- the places of a canvas
abbrev pub canvas_rect : ℕ → ℕ → Rect
canvas_rect width height = rect_at (pos 0) (pos 0) width height
