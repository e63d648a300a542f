-- The rows of pixels that move, in the words of the code.
use Rattle.std.specs.Prelude.{ℕ, ℤ, pos, negsuc, ◌-ℤ◌, List, map, slice_index_or}
use Rattle.dp_blend.specs.Color.{Channels, clear}
use Rattle.dp_blend.specs.Canvas.{below}

-- the pixel at a place of a row, clear outside it
abbrev pub pixel_in_row : List Channels → ℤ → Channels
pixel_in_row row (pos x) = slice_index_or row x clear
pixel_in_row row (negsuc x) = clear

-- the row of this width on which each old pixel x stands at x + left
abbrev pub row_moved : ℕ → List Channels → ℤ → List Channels
row_moved width row left = map (λ x. pixel_in_row row (pos x -ℤ left)) (below width)
