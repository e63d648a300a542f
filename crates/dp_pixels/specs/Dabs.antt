-- Dabs of a brush: where they stand, and which places they cover.
use Rattle.std.specs.Prelude.{ℕ, ◌+◌, ◌*◌, ◌/◌, nat_le, ℤ, pos, ◌+ℤ◌, ◌-ℤ◌, unsigned_abs}
use Rattle.std.specs.Prelude.{Bool, ◌&&◌, List, map, take, fold}
use Rattle.std.specs.List.{enumerate_from}
use Rattle.dp_msg_draw.specs.declared.lists.Dab.{Dab}
use Rattle.dp_pixels.specs.declared.dabs.PlacedDab.{PlacedDab}
use Rattle.dp_pixels.specs.declared.dabs.Shape.{Shape}
use Rattle.dp_pixels.specs.declared.dabs.Shape.TheVariants.{Round, Square}
use Rattle.dp_pixels.specs.declared.rect.Rect.{Rect}
use Rattle.dp_pixels.specs.Rectangles.{is_in, rect_at}

-- the sum of whole numbers
abbrev pub int_sum : List ℤ → ℤ
int_sum numbers = fold ◌+ℤ◌ (pos 0) numbers

-- the dabs of a message at a place: dab k, counted from 0, stands at that place plus the sums of
-- the differences of the dabs up to it, its own included
abbrev pub placed_dabs : ℤ → ℤ → List Dab → List PlacedDab
placed_dabs x y dabs =
    map
    (λ (entry : ℕ × Dab).
    let up_to = take (entry.0 + 1) dabs in
    record {
      at = record {
        x = x +ℤ int_sum (map (λ (dab : Dab). dab.dx) up_to);
        y = y +ℤ int_sum (map (λ (dab : Dab). dab.dy) up_to);
      };
      size = entry.1.size;
      opacity = entry.1.opacity;
    })
    (enumerate_from 0 dabs)

-- the square of cells of a dab: its corner is half its size, rounded down, to the left of and above
-- its place
abbrev pub dab_rect : PlacedDab → Rect
dab_rect dab =
    let half = dab.size / 2 in rect_at (dab.at.x -ℤ pos half) (dab.at.y -ℤ pos half) dab.size
    dab.size

-- the square of a whole number
abbrev pub squared : ℤ → ℕ
squared z = unsigned_abs z * unsigned_abs z

-- twice the way from the middle of a dab to the middle of its cell i, on one axis
abbrev pub from_middle : ℕ → ℤ → ℤ
from_middle size i = i +ℤ i +ℤ pos 1 -ℤ pos size

-- the cell (i, j) of a dab of this size is in the disc: (2i + 1 - size)^2 + (2j + 1 - size)^2 <=
-- size^2
abbrev pub is_in_disc : ℕ → ℤ → ℤ → Bool
is_in_disc size i j =
    nat_le (squared (from_middle size i) + squared (from_middle size j)) (size * size)

-- a square dab covers all its cells, and a round one those in the disc
abbrev pub dab_covers : Shape → PlacedDab → ℤ → ℤ → Bool
dab_covers Square dab x y = is_in (dab_rect dab) x y
dab_covers Round dab x y =
    let cells = dab_rect dab in
    is_in cells x y && is_in_disc dab.size (x -ℤ cells.x0) (y -ℤ cells.y0)
