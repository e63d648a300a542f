-- The pixels of a canvas as one list: row by row from the top, each row from the left.
use Rattle.std.specs.Prelude.{ℕ, ◌+◌, ◌*◌, List, map, slice_index_or}
use Rattle.std.specs.List.{range_with_len, flat_map}
use Rattle.dp_blend.specs.Color.{Channels, clear}

-- the numbers below n, in order
abbrev pub below : ℕ → List ℕ
below n = range_with_len 0 n

-- the pixels of a canvas of this width and height that has pixel x y at each place, row by row
abbrev pub canvas_of : ℕ → ℕ → (ℕ → ℕ → Channels) → List Channels
canvas_of width height pixel = flat_map (λ y. map (λ x. pixel x y) (below width)) (below height)

-- the pixel at a place of a canvas of this width
abbrev pub pixel_at : ℕ → List Channels → ℕ → ℕ → Channels
pixel_at width pixels x y = slice_index_or pixels (y * width + x) clear

-- the first `count` pixels from x on in the row y of a canvas of this width
abbrev pub part_of_row : ℕ → List Channels → ℕ → ℕ → ℕ → List Channels
part_of_row width pixels x y count = map (λ i. pixel_at width pixels (x + i) y) (below count)
