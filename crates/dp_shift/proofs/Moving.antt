-- Grids whose tiles were made of pixels at all places, and MoveRect on them.
use Rattle.std.proofs.Common.{◌≡◌, ℕ, ◌+◌, ◌*◌, ◌/◌, ◌%◌, ◌<◌, Bool, true, false, refl}
use Rattle.std.proofs.Common.{sym, ◌∙◌, ap, arith, subst, ⊎_elim, cond, ◌≤◌}
use Rattle.std.specs.Prelude.{ℤ, pos, ◌+ℤ◌, ◌-ℤ◌, ◌≤ℤ◌, ◌<ℤ◌, int_lt}
use Rattle.std.specs.Int.{int_max, int_min}
use Rattle.std.proofs.Math.Nat.{mul-le-mul}
use Rattle.std.proofs.lemmas.Bool.{cases_Bool, cond-false, cond-true, false_from_ne_true}
use Rattle.std.proofs.lemmas.Bool.{false≢true}
use Rattle.std.proofs.lemmas.Bool.Decides.{nat_tests}
use Rattle.std.proofs.lemmas.Int.{ints, int_max_is, int_min_is}
use Rattle.dp_blend.specs.Color.{Channels, clear}
use Rattle.dp_blend.specs.Blending.{blend}
use Rattle.dp_blend.specs.declared.modes.Mode.TheVariants.{Normal}
use Rattle.dp_blend.proofs.Canvas.{canvas_of-same}
use Rattle.dp_msg_draw.specs.declared.draw.Draw.{Draw}
use Rattle.dp_msg_draw.specs.declared.draw.Draw.TheVariants.{MoveRect}
use Rattle.dp_pixels.specs.declared.rect.Rect.{Rect}
use Rattle.dp_pixels.specs.Rectangles.{canvas_rect, clipped, is_in, rect_at}
use Rattle.dp_pixels.specs.Commands.{drawn, moved, pixels_after}
use Rattle.dp_pixels.specs.Feet.{on_greatest, squares_of, stretches}
use Rattle.dp_pixels.proofs.Rectangles.{IsIn, clipped_by, clipped_in, is_in-true, is_in_by}
use Rattle.dp_pixels.proofs.SpanLemmas.{same_test}
use Rattle.dp_tile.specs.declared.area.CellArea.{CellArea}
use Rattle.dp_tile.specs.Tiles.{TileGrid, cell_at, grid_pixel, grid_pixels, tile_of}
use Rattle.dp_tile.proofs.Tiles.{length-tile_of, pixel-tile_of}
use Rattle.dp_tile.specs.Areas.{IsPaintedOn, is_in_cells}
use Rattle.dp_shift.specs.Grids.{IsGridOf, IsOnGreatest}
use Rattle.dp_shift.specs.Reading.{ArePainted, IsAreaOf, moved_part, shifted, shown, tile_from}
use Rattle.dp_shift.proofs.AreaLemmas.{pixel_in, pixel_off}
use Rattle.dp_shift.proofs.Shown.{shown_at}
use Rattle.dp_shift.proofs.Tiles.{is_tile_from, pixel-tile_from}
use Rattle.dp_pixels.proofs.Rectangles.{on_canvas}

module _ (pixel : ℤ → ℤ → Channels) (area : CellArea) (old new : TileGrid)
    (painted : IsPaintedOn area (λ col row _. tile_from pixel col row) old new) where
  -- a place in a cell of the area
  pub pixel_in_area : (x y : ℕ) → x / 64 < old.cols → y / 64 < old.rows
      → is_in_cells area (x / 64) (y / 64) ≡ true → grid_pixel new x y ≡ pixel (pos x) (pos y)
  pixel_in_area x y in_cols in_rows inside =
      let at_x : x / 64 * 64 + x % 64 ≡ x = omega arith in
      let at_y : y / 64 * 64 + y % 64 ≡ y = omega arith in
      pixel_in area (λ col row _. tile_from pixel col row) old new painted x y in_cols in_rows
      inside
      ∙ pixel-tile_from pixel (x / 64) (y / 64) (x % 64) (y % 64) (omega arith) (omega arith)
      ∙ (rw (at_x, at_y) refl)

  -- a place in another cell
  pub pixel_off_area : (x y : ℕ) → x / 64 < old.cols → y / 64 < old.rows
      → is_in_cells area (x / 64) (y / 64) ≡ false → grid_pixel new x y ≡ grid_pixel old x y
  pixel_off_area = pixel_off area (λ col row _. tile_from pixel col row) old new painted

-- the areas are painted with these pixels by equal numbers
pub same_painted : (from to : CellArea) (a b : Rect) (right_a right_b down_a down_b : ℤ)
    (s t : TileGrid) (w h : ℕ) (old new : TileGrid) → a ≡ b → right_a ≡ right_b → down_a ≡ down_b
    → s ≡ t → ArePainted from to (moved_part a right_a down_a (shown w h s)) old new
    → ArePainted from to (moved_part b right_b down_b (shown w h t)) old new
same_painted from to a b right_a right_b down_a down_b s t w h old new source right down same are =
    subst (λ f. ArePainted from to f old new)
    (λ i. moved_part (source i) (right i) (down i) (shown w h (same i))) are

-- the grid is of the same canvas then
pub is_grid_moved : (w h : ℕ) (from to : CellArea) (pixel : ℤ → ℤ → Channels) (old new : TileGrid)
    → IsGridOf w h old → ArePainted from to pixel old new → IsGridOf w h new
is_grid_moved w h from to pixel old new is_of are = record {
  wide = is_of.wide;
  high = is_of.high;
  cols = are.second.cols ∙ are.first.cols ∙ is_of.cols;
  rows = are.second.rows ∙ are.first.rows ∙ is_of.rows;
}

-- a place on a canvas
-- ---- the cells that a move reaches

-- the places of a rectangle that are on a canvas are those of its part on the greatest one
pub greatest_has : (r : Rect) (w h : ℕ) → w ≤ 4096 → h ≤ 4096 → (x y : ℤ)
    → IsIn (canvas_rect w h) x y → IsIn r x y → IsIn (on_greatest r) x y
greatest_has r w h wide high x y on is =
    let x0 = is.x0 in
    let x1 = is.x1 in
    let y0 = is.y0 in
    let y1 = is.y1 in
    let on_x0 = on.x0 in
    let on_x1 = on.x1 in
    let on_y0 = on.y0 in
    let on_y1 = on.y1 in
    record {
      x0 = omega (
        arith,
        ints,
        int_max_is (pos 0) (int_min r.x0 (pos 4096)),
        int_min_is r.x0 (pos 4096),
        x0,
        on_x0,
      );
      x1 = omega (
        arith,
        ints,
        int_max_is (pos 0) (int_min r.x1 (pos 4096)),
        int_min_is r.x1 (pos 4096),
        x1,
        on_x1,
        wide,
      );
      y0 = omega (
        arith,
        ints,
        int_max_is (pos 0) (int_min r.y0 (pos 4096)),
        int_min_is r.y0 (pos 4096),
        y0,
        on_y0,
      );
      y1 = omega (
        arith,
        ints,
        int_max_is (pos 0) (int_min r.y1 (pos 4096)),
        int_min_is r.y1 (pos 4096),
        y1,
        on_y1,
        high,
      );
    }

of_greatest : (r : Rect) (w h : ℕ) → w ≤ 4096 → h ≤ 4096 → (x y : ℤ)
    → IsIn (canvas_rect w h) x y → IsIn (on_greatest r) x y → IsIn r x y
of_greatest r w h wide high x y on is =
    let x0 = is.x0 in
    let x1 = is.x1 in
    let y0 = is.y0 in
    let y1 = is.y1 in
    let on_x0 = on.x0 in
    let on_x1 = on.x1 in
    let on_y0 = on.y0 in
    let on_y1 = on.y1 in
    record {
      x0 = omega (
        arith,
        ints,
        int_max_is (pos 0) (int_min r.x0 (pos 4096)),
        int_min_is r.x0 (pos 4096),
        x0,
        on_x1,
        wide,
      );
      x1 = omega (
        arith,
        ints,
        int_max_is (pos 0) (int_min r.x1 (pos 4096)),
        int_min_is r.x1 (pos 4096),
        x1,
        on_x0,
      );
      y0 = omega (
        arith,
        ints,
        int_max_is (pos 0) (int_min r.y0 (pos 4096)),
        int_min_is r.y0 (pos 4096),
        y0,
        on_y1,
        high,
      );
      y1 = omega (
        arith,
        ints,
        int_max_is (pos 0) (int_min r.y1 (pos 4096)),
        int_min_is r.y1 (pos 4096),
        y1,
        on_y0,
      );
    }

pub same_source : (r : Rect) (w h : ℕ) → w ≤ 4096 → h ≤ 4096 → (x y : ℤ)
    → is_in (clipped (on_greatest r) (canvas_rect w h)) x y
    ≡ is_in (clipped r (canvas_rect w h)) x y
same_source r w h wide high x y =
    let canvas = canvas_rect w h in
    same_test (is_in (clipped (on_greatest r) canvas) x y) (is_in (clipped r canvas) x y)
    (λ t.
    let both = clipped_in (on_greatest r) canvas x y
    (is_in-true (clipped (on_greatest r) canvas) x y t) in
    is_in_by (clipped r canvas) x y
    (clipped_by r canvas x y (of_greatest r w h wide high x y both.1 both.0) both.1))
    (λ t.
    let both = clipped_in r canvas x y (is_in-true (clipped r canvas) x y t) in
    is_in_by (clipped (on_greatest r) canvas) x y
    (clipped_by (on_greatest r) canvas x y (greatest_has r w h wide high x y both.1 both.0) both.1))

-- a place to which one of a rectangle moves
module _ (w h sx sy mw mh : ℕ) (tx ty : ℤ) (source : Rect) (wide : w ≤ 4096) (high : h ≤ 4096)
    (same : (x y : ℤ) → is_in source x y
    ≡ is_in (clipped (rect_at (pos sx) (pos sy) mw mh) (canvas_rect w h)) x y) where
  abbrev pub target : Rect
  target =
      clipped (clipped (on_greatest (rect_at tx ty mw mh))
      (shifted source (tx -ℤ pos sx) (ty -ℤ pos sy))) (canvas_rect w h)

  pub target_has : (x y : ℕ) → x < w → y < h
      → is_in source (pos x -ℤ (tx -ℤ pos sx)) (pos y -ℤ (ty -ℤ pos sy)) ≡ true
      → is_in target (pos x) (pos y) ≡ true
  target_has x y in_x in_y is =
      let back_x = pos x -ℤ (tx -ℤ pos sx) in
      let back_y = pos y -ℤ (ty -ℤ pos sy) in
      let canvas = canvas_rect w h in
      let on = is_in-true canvas (pos x) (pos y) (on_canvas w h x y in_x in_y) in
      let of_source = is_in-true source back_x back_y is in
      let of_rect = (clipped_in (rect_at (pos sx) (pos sy) mw mh) canvas back_x back_y
      (is_in-true (clipped (rect_at (pos sx) (pos sy) mw mh) canvas) back_x back_y
      (sym (same back_x back_y) ∙ is))).0 in
      is_in_by target (pos x) (pos y)
      (clipped_by (clipped (on_greatest (rect_at tx ty mw mh))
      (shifted source (tx -ℤ pos sx) (ty -ℤ pos sy))) canvas (pos x) (pos y)
      (clipped_by (on_greatest (rect_at tx ty mw mh))
      (shifted source (tx -ℤ pos sx) (ty -ℤ pos sy)) (pos x) (pos y)
      (greatest_has (rect_at tx ty mw mh) w h wide high (pos x) (pos y) on
      (in_target of_rect)) (in_shifted of_source)) on) where
        in_target : IsIn (rect_at (pos sx) (pos sy) mw mh) (pos x -ℤ (tx -ℤ pos sx))
            (pos y -ℤ (ty -ℤ pos sy))
            → IsIn (rect_at tx ty mw mh) (pos x) (pos y)
        in_target of_rect =
            let x0 = of_rect.x0 in
            let x1 = of_rect.x1 in
            let y0 = of_rect.y0 in
            let y1 = of_rect.y1 in
            record {
              x0 = omega (arith, ints, x0);
              x1 = omega (arith, ints, x1);
              y0 = omega (arith, ints, y0);
              y1 = omega (arith, ints, y1);
            }

        in_shifted : IsIn source (pos x -ℤ (tx -ℤ pos sx)) (pos y -ℤ (ty -ℤ pos sy))
            → IsIn (shifted source (tx -ℤ pos sx) (ty -ℤ pos sy)) (pos x) (pos y)
        in_shifted of_source =
            let x0 = of_source.x0 in
            let x1 = of_source.x1 in
            let y0 = of_source.y0 in
            let y1 = of_source.y1 in
            record {
              x0 = omega (arith, ints, x0);
              x1 = omega (arith, ints, x1);
              y0 = omega (arith, ints, y0);
              y1 = omega (arith, ints, y1);
            }

-- ---- a grid that was painted on both areas

-- pixels laid on others, by other tests of the same outcome
same_laid : (s t u v : Bool) (over : Channels → Channels) (p : Channels) → s ≡ t → u ≡ v
    → cond s (over (cond u clear p)) (cond u clear p)
    ≡ cond t (over (cond v clear p)) (cond v clear p)
same_laid s t u v over p first second = rw (first, second) refl

module _ (w h layer sx sy mw mh : ℕ) (tx ty : ℤ) (command : Draw) (from to : CellArea)
    (source : Rect) (old new : TileGrid) (is : command ≡ MoveRect layer sx sy mw mh tx ty)
    (is_of : IsGridOf w h old)
    (same : (x y : ℤ) → is_in source x y
    ≡ is_in (clipped (rect_at (pos sx) (pos sy) mw mh) (canvas_rect w h)) x y)
    (covers_from : (x y : ℕ) → x < w → y < h → is_in source (pos x) (pos y) ≡ true
    → is_in_cells from (x / 64) (y / 64) ≡ true)
    (covers_to : (x y : ℕ) → x < w → y < h
    → is_in source (pos x -ℤ (tx -ℤ pos sx)) (pos y -ℤ (ty -ℤ pos sy)) ≡ true
    → is_in_cells to (x / 64) (y / 64) ≡ true)
    (are : ArePainted from to (moved_part source (tx -ℤ pos sx) (ty -ℤ pos sy)
    (shown w h old)) old new) where
  abbrev pub op : Draw
  op = MoveRect layer sx sy mw mh tx ty

  abbrev pub part : ℤ → ℤ → Channels
  part = moved_part source (tx -ℤ pos sx) (ty -ℤ pos sy) (shown w h old)

  in_cols : (x : ℕ) → x < w → x / 64 < old.cols
  in_cols x below = omega (arith, is_of.cols, below)

  in_rows : (y : ℕ) → y < h → y / 64 < old.rows
  in_rows y below = omega (arith, is_of.rows, below)

  -- where it is drawn
  is_drawn : (x y : ℕ) → x < w → y < h
      → part (pos x) (pos y) ≡ drawn w h op (shown w h old) (pos x) (pos y)
  is_drawn x y in_x in_y =
      let first = shown w h old in
      let back_x = pos x -ℤ (tx -ℤ pos sx) in
      let back_y = pos y -ℤ (ty -ℤ pos sy) in
      let clip = clipped (rect_at (pos sx) (pos sy) mw mh) (canvas_rect w h) in
      same_laid (is_in source back_x back_y) (is_in clip back_x back_y)
      (is_in source (pos x) (pos y)) (is_in clip (pos x) (pos y))
      (blend Normal (first back_x back_y)) (first (pos x) (pos y)) (same back_x back_y)
      (same (pos x) (pos y))
      ∙ sym (cond-true (is_in (canvas_rect w h) (pos x) (pos y))
      (moved w h sx sy mw mh tx ty first (pos x) (pos y)) (first (pos x) (pos y))
      (on_canvas w h x y in_x in_y))

  -- where neither area is
  stays : (x y : ℕ) → x < w → y < h → is_in_cells from (x / 64) (y / 64) ≡ false
      → is_in_cells to (x / 64) (y / 64) ≡ false → grid_pixel old x y ≡ part (pos x) (pos y)
  stays x y in_x in_y off_from off_to =
      let back_x = pos x -ℤ (tx -ℤ pos sx) in
      let back_y = pos y -ℤ (ty -ℤ pos sy) in
      let p = shown w h old (pos x) (pos y) in
      let over = blend Normal (shown w h old back_x back_y) in
      let no_source = false_from_ne_true (is_in source (pos x) (pos y))
      (λ t. false≢true (sym off_from ∙ covers_from x y in_x in_y t)) in
      let no_target = false_from_ne_true (is_in source back_x back_y)
      (λ t. false≢true (sym off_to ∙ covers_to x y in_x in_y t)) in
      sym (same_laid (is_in source back_x back_y) false (is_in source (pos x) (pos y)) false over p
      no_target no_source
      ∙ shown_at w h old x y in_x in_y)

  each : (x y : ℕ) → x < w → y < h
      → grid_pixel new x y ≡ drawn w h op (shown w h old) (pos x) (pos y)
  each x y in_x in_y =
      let cols : x / 64 < are.between.cols = rw are.first.cols (in_cols x in_x) in
      let rows : y / 64 < are.between.rows = rw are.first.rows (in_rows y in_y) in
      ⊎_elim (λ inside. pixel_in_area part to are.between new are.second x y cols rows inside)
      (λ off_to. pixel_off_area part to are.between new are.second x y cols rows off_to
      ∙ ⊎_elim (λ inside. pixel_in_area part from old are.between are.first x y (in_cols x in_x)
      (in_rows y in_y) inside)
      (λ off_from. pixel_off_area part from old are.between are.first x y (in_cols x in_x)
      (in_rows y in_y) off_from ∙ stays x y in_x in_y off_from off_to)
      (cases_Bool (is_in_cells from (x / 64) (y / 64))))
      (cases_Bool (is_in_cells to (x / 64) (y / 64)))
      ∙ is_drawn x y in_x in_y

  pub grid_moved : grid_pixels w h new ≡ pixels_after w h command (grid_pixels w h old)
  grid_moved =
      canvas_of-same w h (grid_pixel new)
      (λ x y. drawn w h op (shown w h old) (pos x) (pos y)) each
      ∙ ap (λ c. pixels_after w h c (grid_pixels w h old)) (sym is)

-- ---- how many tiles

fewer : (a b c d : ℤ) → pos 0 ≤ℤ a → a ≤ℤ c → d ≤ℤ b → stretches c d ≤ stretches a b
fewer a b c d from low high =
    ⊎_elim
    (λ (yes : int_lt c d ≡ true).
    let some : c <ℤ d = grind (arith, ints, yes) in
    let more : int_lt a b ≡ true = grind (arith, ints, some, low, high) in
    rw (yes, more) (omega (arith, ints, some, from, low, high)))
    (λ (no : int_lt c d ≡ false). rw no (omega arith))
    (cases_Bool (int_lt c d))

-- a part of a rectangle shares a place with no more squares
pub fewer_squares : (r s : Rect) → IsOnGreatest r → squares_of (clipped r s) ≤ squares_of r
fewer_squares r s on =
    mul-le-mul
    (fewer r.x0 r.x1 (int_max r.x0 s.x0) (int_min r.x1 s.x1) on.left
    (omega (arith, ints, int_max_is r.x0 s.x0)) (omega (arith, ints, int_min_is r.x1 s.x1)))
    (fewer r.y0 r.y1 (int_max r.y0 s.y0) (int_min r.y1 s.y1) on.top
    (omega (arith, ints, int_max_is r.y0 s.y0)) (omega (arith, ints, int_min_is r.y1 s.y1)))

-- and is on the greatest canvas too
pub part_within : (r s : Rect) → IsOnGreatest r → IsOnGreatest (clipped r s)
part_within r s on =
    let left = on.left in
    let top = on.top in
    let right = on.right in
    let bottom = on.bottom in
    record {
      left = omega (arith, ints, int_max_is r.x0 s.x0, left);
      top = omega (arith, ints, int_max_is r.y0 s.y0, top);
      right = omega (arith, ints, int_min_is r.x1 s.x1, right);
      bottom = omega (arith, ints, int_min_is r.y1 s.y1, bottom);
    }

-- a cell of the first area stays when the second one is painted
pub first_stays : (from to : CellArea) (pixel : ℤ → ℤ → Channels) (old new : TileGrid)
    (are : ArePainted from to pixel old new) → IsAreaOf old from → (col row : ℕ)
    → is_in_cells from col row ≡ true → cell_at are.between col row ≡ cell_at new col row
first_stays from to pixel old new are of col row inside =
    let cols = of.cols in
    let rows = of.rows in
    let right : col < from.right = grind (arith, nat_tests, inside) in
    let bottom : row < from.bottom = grind (arith, nat_tests, inside) in
    let in_cols : col < old.cols = omega (arith, right, cols) in
    let in_rows : row < old.rows = omega (arith, bottom, rows) in
    let first = are.first.cells col row in_cols in_rows
    ∙ cond-true (is_in_cells from col row) (tile_from pixel col row) (cell_at old col row) inside in
    let second = are.second.cells col row (rw are.first.cols in_cols)
    (rw are.first.rows in_rows) in
    ⊎_elim
    (λ yes. first ∙ sym (second ∙ cond-true (is_in_cells to col row) (tile_from pixel col row)
    (cell_at are.between col row) yes))
    (λ no. sym (second ∙ cond-false (is_in_cells to col row) (tile_from pixel col row)
    (cell_at are.between col row) no))
    (cases_Bool (is_in_cells to col row))

-- a tile that is in the source, and on which nothing is laid
pub moved_clear : (source : Rect) (right down : ℤ) (old : ℤ → ℤ → Channels) (col row : ℕ)
    → ((i j : ℕ) → i < 64 → j < 64
    → is_in source (pos (col * 64 + i)) (pos (row * 64 + j)) ≡ true)
    → ((i j : ℕ) → i < 64 → j < 64
    → is_in source (pos (col * 64 + i) -ℤ right) (pos (row * 64 + j) -ℤ down) ≡ false)
    → tile_from (moved_part source right down old) col row ≡ tile_of clear
moved_clear source right down old col row has misses =
    sym (is_tile_from (moved_part source right down old) col row (tile_of clear)
    (length-tile_of clear)
    (λ i j in_x in_y.
    let x = pos (col * 64 + i) in
    let y = pos (row * 64 + j) in
    pixel-tile_of clear (j * 64 + i) (omega (arith, in_x, in_y))
    ∙ sym (same_laid (is_in source (x -ℤ right) (y -ℤ down)) false (is_in source x y) true
    (blend Normal (old (x -ℤ right) (y -ℤ down))) (old x y) (misses i j in_x in_y)
    (has i j in_x in_y))))

-- a place of a tile, so far back
pub tile_place : (tile i : ℕ) (by z : ℤ) → z ≡ pos (tile * 64) -ℤ by
    → pos (tile * 64 + i) -ℤ by ≡ z +ℤ pos i
tile_place tile i by z is = omega (arith, ints, is)
