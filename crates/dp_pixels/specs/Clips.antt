-- The part of a region that is in a rectangle.
use Rattle.std.specs.Prelude.{ℕ, ◌+◌, ◌<◌, ◌≤◌, ◌↔◌, ℤ, pos, ◌<ℤ◌}
use Rattle.dp_pixels.specs.declared.rect.Rect.{Rect}
use Rattle.dp_pixels.specs.declared.region.Region.{Region}
use Rattle.dp_pixels.specs.declared.region.Clip.{Clip}
use Rattle.dp_pixels.specs.Rectangles.{clipped, canvas_rect}

-- of the numbers from `from` on, len in all, the first n are those below a limit
pub record IsCountBelow (limit : ℤ) (from len n : ℕ) : Type 0 where
  pub within : n ≤ len
  pub below : (k : ℕ) → k < len → (k < n) ↔ (pos (from + k) <ℤ limit)

-- the columns and rows of a region that are in a rectangle and on the canvas
pub record IsClip (region : Region) (bounds : Rect) (part : Clip) : Type 0 where
  pub left : IsCountBelow (clipped bounds (canvas_rect region.canvas_width region.canvas_height)).x0
      region.x region.width part.left
  pub right : IsCountBelow (clipped bounds (canvas_rect region.canvas_width
      region.canvas_height)).x1 region.x region.width part.right
  pub top : IsCountBelow (clipped bounds (canvas_rect region.canvas_width region.canvas_height)).y0
      region.y region.height part.top
  pub bottom : IsCountBelow (clipped bounds (canvas_rect region.canvas_width
      region.canvas_height)).y1 region.y region.height part.bottom
