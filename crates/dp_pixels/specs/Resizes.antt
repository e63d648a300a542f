-- A canvas that gets new sides.
use Rattle.std.specs.Prelude.{◌≡◌, ℕ, ℤ, pos, negsuc, ◌+ℤ◌, ◌-ℤ◌, Bool, true, false, ◌&&◌}
use Rattle.std.specs.Prelude.{nat_le, List}
use Rattle.dp_blend.specs.Color.{Channels}
use Rattle.dp_blend.specs.Canvas.{canvas_of}
use Rattle.dp_pixels.specs.declared.resize.Resize.{Resize}
use Rattle.dp_pixels.specs.Commands.{pixel_of}

-- A side of the canvas is from 1 to 4096 pixels long.
abbrev pub is_side : ℤ → Bool
is_side (pos n) = nat_le 1 n && nat_le n 4096
is_side (negsuc n) = false

-- the length of a side, if it is one
abbrev pub side : ℤ → ℕ
side (pos n) = n
side (negsuc n) = 0

-- the pixels on a canvas of the new sides, if each old pixel (x, y) stands at (x + left, y +
-- top)
abbrev pub pixels_shifted : ℕ → ℕ → List Channels → ℕ → ℕ → ℤ → ℤ → List Channels
pixels_shifted width height pixels new_width new_height left top =
    canvas_of new_width new_height
    (λ x y. pixel_of width height pixels (pos x -ℤ left) (pos y -ℤ top))

-- the resize is that of a canvas whose sides move outwards so far, to new ones that are sides
pub record IsResizeOf (width height : ℕ) (top right bottom left : ℤ) (r : Resize) : Type 0 where
  pub from_width : r.width ≡ width
  pub from_height : r.height ≡ height
  pub wide : is_side (pos width +ℤ left +ℤ right) ≡ true
  pub high : is_side (pos height +ℤ top +ℤ bottom) ≡ true
  pub to_width : r.new_width ≡ side (pos width +ℤ left +ℤ right)
  pub to_height : r.new_height ≡ side (pos height +ℤ top +ℤ bottom)
  pub across : r.left ≡ left
  pub down : r.top ≡ top

-- the pixels of a layer after a resize
abbrev pub pixels_resized : Resize → List Channels → List Channels
pixels_resized r pixels =
    pixels_shifted r.width r.height pixels r.new_width r.new_height r.left r.top
