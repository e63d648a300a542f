-- The cells of a dab, as the code computes them.
use Rattle.std.proofs.Common.{◌≡◌, ℕ, ◌+◌, ◌*◌, ◌^◌, ◌<◌, ◌≤◌, true, ◌&&◌, arith}
use Rattle.std.proofs.Common.{ap, ◌∙◌, SFits, w64, to_z, of_z}
use Rattle.std.specs.Prelude.{ℤ, pos, ◌+ℤ◌, ◌-ℤ◌, ◌≤ℤ◌, ◌<ℤ◌, unsigned_abs}
use Rattle.std.proofs.lemmas.Int.{ints}
use Rattle.std.proofs.Math.Nat.{mul_comm, mul-le-mul_right}
use lib.Signed.{non_neg}
use lib.Dec.{T}
use Rattle.dp_pixels.specs.declared.rect.Rect.{Rect}
use Rattle.dp_pixels.specs.declared.dabs.PlacedDab.{PlacedDab}
use Rattle.dp_pixels.specs.declared.dabs.Shape.TheVariants.{Round}
use Rattle.dp_pixels.specs.Rectangles.{is_in}
use Rattle.dp_pixels.specs.Dabs.{dab_rect, is_in_disc, dab_covers}

-- a number near 0 less a small one, as the code computes it
pub less_small : (z : ℤ) (n : ℕ) → unsigned_abs z < 549755813888 → n < 256
    → to_z w64 (of_z w64 (to_z w64 (of_z w64 z) -ℤ to_z w64 n)) ≡ z -ℤ pos n
less_small z n near small = omega (arith, ints)

-- the difference of two numbers
abbrev pub difference : ℤ → ℤ → ℤ
difference x left = to_z w64 (of_z w64 x) -ℤ to_z w64 (of_z w64 left)

-- a number that is less than `size` above another
pub record IsCell (x left : ℤ) (size : ℕ) : Type 0 where
  pub fits : SFits w64 (difference x left)
  pub not_negative : T (non_neg (to_z w64 (of_z w64 (difference x left))))
  pub small : unsigned_abs (to_z w64 (of_z w64 (difference x left))) < size
  pub value : pos (unsigned_abs (to_z w64 (of_z w64 (difference x left)))) ≡ x -ℤ left

pub is_cell : (x left : ℤ) (size : ℕ) → SFits w64 x → SFits w64 left → size < 256 → left ≤ℤ x
    → x <ℤ (left +ℤ pos size) → IsCell x left size
is_cell x left size x_fits left_fits short from before = record {
  fits = omega (arith, ints);
  not_negative = grind (arith, ints);
  small = omega (arith, ints);
  value = omega (arith, ints);
}

-- a round dab covers a place of its square if the cell is in the disc
pub round_covers_cell : (dab : PlacedDab) (cells : Rect) (x y : ℤ) (i j : ℕ) → cells ≡ dab_rect dab
    → is_in cells x y ≡ true
    → pos i ≡ x -ℤ cells.x0 → pos j ≡ y -ℤ cells.y0 → is_in_disc dab.size (pos i) (pos j)
    ≡ dab_covers Round dab x y
round_covers_cell dab cells x y i j is inside column row =
    let in_cells : is_in_disc dab.size (pos i) (pos j) ≡
    (is_in cells x y && is_in_disc dab.size (x -ℤ cells.x0) (y -ℤ cells.y0)) =
    rw (inside, ← column, ← row) in
    in_cells ∙ ap (λ (r : Rect). is_in r x y && is_in_disc dab.size (x -ℤ r.x0) (y -ℤ r.y0)) is

-- a row that ends within a square begins near its corner
pub near_corner : (x x0 : ℤ) (len size : ℕ) → (x +ℤ pos len) ≤ℤ (x0 +ℤ pos size) → size < 2 ^ 32
    → x ≤ℤ (x0 +ℤ pos (2 ^ 40))
near_corner x x0 len size right short = omega (arith, ints)

pub near_corner_below : (y y0 : ℤ) (size : ℕ) → y <ℤ (y0 +ℤ pos size) → size < 2 ^ 32
    → y ≤ℤ (y0 +ℤ pos (2 ^ 40))
near_corner_below y y0 size bottom short = omega (arith, ints)

-- the cell of a place of the row
pub row_cell : (x x0 : ℤ) (from len size k : ℕ) → (x +ℤ pos len) ≤ℤ (x0 +ℤ pos size)
    → pos from ≡ x -ℤ x0 → k < len → (pos (from + k) ≡ x +ℤ pos k -ℤ x0) × (from + k < size)
row_cell x x0 from len size k right is within = (omega (arith, ints), omega (arith, ints))

-- the row of a place of the square
pub cell_row : (y y0 : ℤ) (j size : ℕ) → y <ℤ (y0 +ℤ pos size) → pos j ≡ y -ℤ y0 → j < size
cell_row y y0 j size bottom is = omega (arith, ints)

-- a row of a square fits in it
pub row_fits : (x x0 : ℤ) (from len size : ℕ) → (x +ℤ pos len) ≤ℤ (x0 +ℤ pos size)
    → pos from ≡ x -ℤ x0 → from + len ≤ size
row_fits x x0 from len size right is = omega (arith, ints)

-- a row of a rectangle of pixels is in their list
pub row_in_list : (count w h i j len : ℕ) → count ≡ w * h → j < h → i + len ≤ w
    → j * w + i + len ≤ count
row_in_list count w h i j len is in_h in_w =
    let rows : (j + 1) * w ≤ h * w = mul-le-mul_right w (omega arith) in
    omega (arith, mul_comm h w)
