-- What a canvas of tiles shows, by places.
use Rattle.std.proofs.Common.{◌≡◌, ℕ, ◌+◌, ◌*◌, ◌/◌, ◌%◌, ◌<◌, ◌≤◌, ◌&&◌, Bool, true, refl, ◌∙◌, ap}
use Rattle.std.proofs.Common.{arith, ⊎_elim}
use Rattle.std.specs.Prelude.{ℤ, pos, negsuc, ◌+ℤ◌, ◌<ℤ◌, ◌≤ℤ◌, nat_lt}
use Rattle.std.specs.Int.{int_min}
use Rattle.std.proofs.lemmas.Bool.{cases_lt}
use Rattle.std.proofs.lemmas.Bool.Decides.{nat_tests}
use Rattle.std.proofs.lemmas.Int.{ints, int_max_is, int_min_is}
use Rattle.dp_blend.specs.Color.{clear}
use Rattle.dp_blend.proofs.Canvas.{pixel_at-canvas_of}
use Rattle.dp_blend.specs.Canvas.{pixel_at}
use Rattle.dp_pixels.specs.Feet.{on_greatest}
use Rattle.dp_pixels.specs.Rectangles.{is_in, rect_at}
use Rattle.dp_pixels.proofs.Rectangles.{is_in_by}
use Rattle.dp_tile.specs.declared.area.CellArea.{CellArea}
use Rattle.dp_tile.specs.Areas.{is_in_cells}
use Rattle.dp_tile.specs.Tiles.{TileGrid, cell_at, grid_pixel, tile_of}
use Rattle.dp_tile.proofs.Tiles.{pixel-tile_of}
use Rattle.dp_shift.specs.Grids.{IsGridOf}
use Rattle.dp_shift.specs.Reading.{shown}

module _ (w h : ℕ) (g : TileGrid) where
  -- on the canvas
  pub shown_at : (x y : ℕ) → x < w → y < h → shown w h g (pos x) (pos y) ≡ grid_pixel g x y
  shown_at x y in_x in_y =
      let test : (nat_lt x w && nat_lt y h) ≡ Bool.true = grind (arith, nat_tests, in_x, in_y) in
      rw test (pixel_at-canvas_of w h (grid_pixel g) x y in_x in_y)

  -- left of it
  pub shown_left : (x y : ℤ) → x <ℤ pos 0 → shown w h g x y ≡ clear
  shown_left (pos x) y left = absurd (omega (arith, ints, left))
  shown_left (negsuc x) y left = refl

  -- right of it
  pub shown_right : (x y : ℤ) → pos w ≤ℤ x → shown w h g x y ≡ clear
  shown_right (pos x) (pos y) right =
      let past : w ≤ x = omega (arith, ints, right) in
      let test : (nat_lt x w && nat_lt y h) ≡ Bool.false = grind (arith, nat_tests, past) in
      rw test refl
  shown_right (pos x) (negsuc y) right = refl
  shown_right (negsuc x) y right = refl

  -- above it
  pub shown_above : (x y : ℤ) → y <ℤ pos 0 → shown w h g x y ≡ clear
  shown_above x (pos y) above = absurd (omega (arith, ints, above))
  shown_above (pos x) (negsuc y) above = refl
  shown_above (negsuc x) (negsuc y) above = refl

  -- below it
  pub shown_below : (x y : ℤ) → pos h ≤ℤ y → shown w h g x y ≡ clear
  shown_below (pos x) (pos y) below =
      let past : h ≤ y = omega (arith, ints, below) in
      let test : (nat_lt x w && nat_lt y h) ≡ Bool.false = grind (arith, nat_tests, past) in
      rw test refl
  shown_below (pos x) (negsuc y) below = refl
  shown_below (negsuc x) y below = refl

-- ---- a square without tiles

module _ (w h : ℕ) (g : TileGrid) (is_of : IsGridOf w h g) (x y : ℤ) (area : CellArea)
    (covers : (a b : ℕ) → a < g.cols * 64 → b < g.rows * 64
    → is_in (on_greatest (rect_at x y 64 64)) (pos a) (pos b) ≡ true
    → is_in_cells area (a / 64) (b / 64) ≡ true)
    (none : (col row : ℕ) → area.left ≤ col → col < area.right → area.top ≤ row
    → row < area.bottom → cell_at g col row ≡ tile_of clear) where
  in_square : (a b : ℕ) → a < w → b < h → x ≤ℤ pos a → pos a <ℤ (x +ℤ pos 64) → y ≤ℤ pos b
      → pos b <ℤ (y +ℤ pos 64) → is_in (on_greatest (rect_at x y 64 64)) (pos a) (pos b) ≡ true
  in_square a b in_x in_y from_x to_x from_y to_y =
      is_in_by (on_greatest (rect_at x y 64 64)) (pos a) (pos b) (record {
        x0 = omega (
          arith,
          ints,
          int_max_is (pos 0) (int_min x (pos 4096)),
          int_min_is x (pos 4096),
          from_x,
        );
        x1 = omega (
          arith,
          ints,
          int_max_is (pos 0) (int_min (x +ℤ pos 64) (pos 4096)),
          int_min_is (x +ℤ pos 64) (pos 4096),
          to_x,
          in_x,
          is_of.wide,
        );
        y0 = omega (
          arith,
          ints,
          int_max_is (pos 0) (int_min y (pos 4096)),
          int_min_is y (pos 4096),
          from_y,
        );
        y1 = omega (
          arith,
          ints,
          int_max_is (pos 0) (int_min (y +ℤ pos 64) (pos 4096)),
          int_min_is (y +ℤ pos 64) (pos 4096),
          to_y,
          in_y,
          is_of.high,
        );
      })

  clear_cell : (a b : ℕ) → a < w → b < h → is_in_cells area (a / 64) (b / 64) ≡ true
      → grid_pixel g a b ≡ clear
  clear_cell a b in_x in_y inside =
      let left : area.left ≤ a / 64 = grind (arith, nat_tests, inside) in
      let right : a / 64 < area.right = grind (arith, nat_tests, inside) in
      let top : area.top ≤ b / 64 = grind (arith, nat_tests, inside) in
      let bottom : b / 64 < area.bottom = grind (arith, nat_tests, inside) in
      ap (λ cell. pixel_at 64 cell (a % 64) (b % 64)) (none (a / 64) (b / 64) left right top bottom)
      ∙ pixel-tile_of clear (b % 64 * 64 + a % 64) (omega arith)

  pub clear_at : (a b : ℤ) → x ≤ℤ a → a <ℤ (x +ℤ pos 64) → y ≤ℤ b → b <ℤ (y +ℤ pos 64)
      → shown w h g a b ≡ clear
  clear_at (pos a) (pos b) from_x to_x from_y to_y =
      ⊎_elim (λ in_x.
      ⊎_elim (λ in_y. shown_at w h g a b in_x in_y
      ∙ clear_cell a b in_x in_y (covers a b (omega (arith, is_of.cols, in_x))
      (omega (arith, is_of.rows, in_y)) (in_square a b in_x in_y from_x to_x from_y to_y)))
      (λ past. shown_below w h g (pos a) (pos b) (omega (arith, ints, past))) (cases_lt b h))
      (λ past. shown_right w h g (pos a) (pos b) (omega (arith, ints, past))) (cases_lt a w)
  clear_at (pos a) (negsuc b) from_x to_x from_y to_y = refl
  clear_at (negsuc a) b from_x to_x from_y to_y = refl
