-- Windows on a canvas, and what is painted on them.
use Rattle.std.specs.Prelude.{◌≡◌, ◌≢◌, ℕ, ◌+◌, ◌*◌, ◌<◌, ℤ, pos, ◌+ℤ◌, ◌≤ℤ◌, ◌<ℤ◌, if◌then◌else◌}
use Rattle.std.specs.Prelude.{List, length, slice_index_or}
use Rattle.dp_blend.specs.Color.{Channels}
use Rattle.dp_pixels.specs.declared.rect.Rect.{Rect}
use Rattle.dp_pixels.specs.declared.rect.Place.{Place}
use Rattle.dp_pixels.specs.declared.region.Region.{Region}
use Rattle.dp_pixels.specs.Rectangles.{is_in, canvas_rect}

-- a change of the pixels that are on the window's canvas; all others stay
abbrev pub on_canvas : Region → (ℤ → ℤ → Channels → Channels) → ℤ → ℤ → Channels → Channels
on_canvas region change x y old =
    if is_in (canvas_rect region.canvas_width region.canvas_height) x y then change x y old else old

-- A list whose rows are stride long was painted: at each place of the region the pixel is what the
-- change makes of the old one, and at all other indices it stays.
pub record IsPainted (region : Region) (stride : ℕ) (change : ℤ → ℤ → Channels → Channels)
    (old new : List Channels) : Type 0 where
  pub len : length new ≡ length old
  pub inside : (i j : ℕ) (d : Channels) → i < region.width → j < region.height
      → slice_index_or new (j * stride + i) d
      ≡ change (pos (region.x + i)) (pos (region.y + j)) (slice_index_or old (j * stride + i) d)
  pub outside : (k : ℕ) (d : Channels)
      → ((i j : ℕ) → i < region.width → j < region.height → k ≢ j * stride + i)
      → slice_index_or new k d ≡ slice_index_or old k d

-- a row of `len` places, at least one, which begins at a place, is in the rectangle
pub record IsRowIn (bounds : Rect) (place : Place) (len : ℕ) : Type 0 where
  pub some : 0 < len
  pub left : bounds.x0 ≤ℤ place.x
  pub right : (place.x +ℤ pos len) ≤ℤ bounds.x1
  pub top : bounds.y0 ≤ℤ place.y
  pub bottom : place.y <ℤ bounds.y1
