-- Where tiles change pixels.
use Rattle.std.proofs.Common.{◌≡◌, ℕ, ◌+◌, ◌*◌, ◌/◌, ◌<◌, ◌≤◌, Bool, true, false, ◌&&◌, cond, eqb}
use Rattle.std.proofs.Common.{leb, ltb, refl, sym, ◌∙◌, ap, subst, arith, ⊎_elim}
use Rattle.std.specs.Prelude.{ℤ, pos, unsigned_abs}
use Rattle.std.proofs.lemmas.Int.{ints}
use Rattle.std.proofs.lemmas.Bool.{cond-true, cases_Bool, cases_lt, cond-false, and_parts, eqb-true}
use Rattle.std.proofs.lemmas.Bool.{leb-true, ltb-true, false≢true}
use Rattle.std.proofs.lemmas.Bool.Decides.{nat_tests}
use Rattle.std.proofs.Math.Nat.{mul-le-mul_right}
use Rattle.std.specs.Option.{option_map_or}
use Rattle.dp_blend.specs.Color.{Channels}
use Rattle.dp_msg_draw.specs.declared.draw.TileContent.{TileContent}
use Rattle.dp_pixels.specs.declared.rect.Rect.{Rect}
use Rattle.dp_pixels.specs.Rectangles.{canvas_rect, clipped, is_in}
use Rattle.dp_pixels.specs.Tiles.{tiles_along, tile_number, is_in_tiles, content_at, replaced_by}
use Rattle.dp_pixels.specs.Tiles.{tile_put, tiles_rect}
use Rattle.dp_pixels.proofs.SpanLemmas.{same_test}
use Rattle.dp_pixels.proofs.Rectangles.{IsIn, is_in-true, is_in_by, in_or_out, clipped_by}

-- the numbers of the first tile and of the last one bound that of a tile between them
pub record IsBetween (width col row repeat x y : ℕ) : Type 0 where
  pub on_canvas : col < tiles_along width
  pub from : tile_number width col row ≤ tile_number width (x / 64) (y / 64)
  pub to : tile_number width (x / 64) (y / 64) ≤ tile_number width col row + repeat

pub between : (width height col row repeat x y : ℕ) → is_in_tiles width height col row repeat x y
    ≡ true → IsBetween width col row repeat x y
between width height col row repeat x y test =
    let all = and_parts (ltb col (tiles_along width) && ltb row (tiles_along height)
    && leb (tile_number width col row) (tile_number width (x / 64) (y / 64)))
    (leb (tile_number width (x / 64) (y / 64)) (tile_number width col row + repeat)) test in
    let three = and_parts (ltb col (tiles_along width) && ltb row (tiles_along height))
    (leb (tile_number width col row) (tile_number width (x / 64) (y / 64))) all.0 in
    let two = and_parts (ltb col (tiles_along width)) (ltb row (tiles_along height)) three.0 in
    record {
      on_canvas = ltb-true col (tiles_along width) two.0;
      from = leb-true (tile_number width col row) (tile_number width (x / 64) (y / 64)) three.1;
      to = leb-true (tile_number width (x / 64) (y / 64)) (tile_number width col row + repeat)
          all.1;
    }

-- a place of the canvas whose tile is between them: its row of tiles
rows_between : (width col row repeat x y : ℕ) → x < width → IsBetween width col row repeat x y
    → (row ≤ y / 64) × (y / 64 ≤ (tile_number width col row + repeat) / tiles_along width)
rows_between width col row repeat x y in_x is =
    let cols = tiles_along width in
    let number = tile_number width (x / 64) (y / 64) in
    let on_canvas = is.on_canvas in
    let from = is.from in
    let to = is.to in
    let column : x / 64 < cols = omega arith in (
      ⊎_elim
          (λ (over : y / 64 < row). let rows : (y / 64 + 1) * cols
          ≤ row * cols = mul-le-mul_right cols (omega arith) in absurd (omega arith))
          (λ (from_row : row ≤ y / 64). from_row)
          (cases_lt (y / 64) row),
      ⊎_elim
          (λ (over : (tile_number width col row + repeat) / cols < y / 64).
          let rows : ((tile_number width col row + repeat) / cols + 1) * cols
          ≤ y / 64 * cols = mul-le-mul_right cols (omega arith) in absurd (omega arith))
          (λ (to_row : y / 64 ≤ (tile_number width col row + repeat) / cols). to_row)
          (cases_lt ((tile_number width col row + repeat) / cols) (y / 64)),
    )

-- it is in the rectangle of the tiles
tile_in_rect : (width col row repeat x y : ℕ) → x < width → IsBetween width col row repeat x y
    → IsIn (tiles_rect width col row repeat) (pos x) (pos y)
tile_in_rect width col row repeat x y in_x is =
    let cols = tiles_along width in
    let last = (tile_number width col row + repeat) / cols in
    let rows = rows_between width col row repeat x y in_x is in
    let from_row = rows.0 in
    let to_row = rows.1 in
    let one_row : Rect = record {
      x0 = pos (col * 64);
      y0 = pos (row * 64);
      x1 = pos
          ((col + repeat + 1) * 64);
      y1 = pos ((last + 1) * 64);
    } in
    let whole_rows : Rect = record {
      x0 = pos 0;
      y0 = pos (row * 64);
      x1 = pos width;
      y1 = pos
          ((last + 1) * 64);
    } in
    ⊎_elim
    (λ (same : eqb last row ≡ true).
    let last_is : last ≡ row = eqb-true last row same in
    let row_is : y / 64 ≡ row = omega arith in
    let products : y / 64 * cols ≡ row * cols = ap (λ (n : ℕ). n * cols) row_is in
    let from = is.from in
    let to = is.to in
    let first : col ≤ x / 64 = omega arith in
    let end : x / 64 ≤ col + repeat = omega arith in
    subst (λ (r : Rect). IsIn r (pos x) (pos y)) (sym (cond-true (eqb last row) one_row whole_rows
    same)) (record {
      x0 = omega (arith, ints);
      x1 = omega (arith, ints);
      y0 = omega (arith, ints);
      y1 = omega (arith, ints);
    }))
    (λ (other : eqb last row ≡ false).
    subst (λ (r : Rect). IsIn r (pos x) (pos y)) (sym (cond-false (eqb last row) one_row whole_rows
    other)) (record {
      x0 = omega (arith, ints);
      x1 = omega (arith, ints);
      y0 = omega (arith, ints);
      y1 = omega (arith, ints);
    }))
    (cases_Bool (eqb last row))

-- outside of the rectangle tiles change nothing
pub tiles_stay : (width height col row repeat : ℕ) (content : TileContent) (x y : ℤ)
    (old : Channels)
    → is_in (clipped (tiles_rect width col row repeat) (canvas_rect width height)) x y ≡ false
    → cond (is_in (canvas_rect width height) x y) (tile_put width height col row repeat content
    (unsigned_abs x) (unsigned_abs y) old) old ≡ old
tiles_stay width height col row repeat content x y old out =
    let canvas = canvas_rect width height in
    let put = tile_put width height col row repeat content (unsigned_abs x) (unsigned_abs y) old in
    let tiles = is_in_tiles width height col row repeat (unsigned_abs x) (unsigned_abs y) in
    ⊎_elim
    (λ (on : is_in canvas x y ≡ true).
    let inside = is_in-true canvas x y on in
    let x0 = inside.x0 in
    let x1 = inside.x1 in
    let y0 = inside.y0 in
    let x_is : pos (unsigned_abs x) ≡ x = omega (arith, ints) in
    let y_is : pos (unsigned_abs y) ≡ y = omega (arith, ints) in
    let in_x : unsigned_abs x < width = omega (arith, ints) in
    cond-true (is_in canvas x y) put old on
    ∙ ⊎_elim
    (λ (has : tiles ≡ true).
    let placed = tile_in_rect width col row repeat (unsigned_abs x) (unsigned_abs y) in_x
    (between width height col row repeat (unsigned_abs x) (unsigned_abs y) has) in
    let here = subst (λ (z : ℤ). IsIn (tiles_rect width col row repeat) x z) y_is
    (subst (λ (z : ℤ). IsIn (tiles_rect width col row repeat) z (pos (unsigned_abs y))) x_is
    placed) in
    absurd (false≢true (sym out ∙ is_in_by (clipped (tiles_rect width col row repeat) canvas) x y
    (clipped_by (tiles_rect width col row repeat) canvas x y here inside))))
    (λ (none : tiles ≡ false). cond-false tiles _ old none)
    (cases_Bool tiles))
    (λ (off : is_in canvas x y ≡ false). cond-false (is_in canvas x y) put old off)
    (in_or_out canvas x y)

-- the test of a tile between the first and the last one, on the canvas
in_tiles : (width height col row repeat x y : ℕ) → x < width → y < height
    → IsBetween width col row repeat x y → is_in_tiles width height col row repeat x y ≡ true
in_tiles width height col row repeat x y in_x in_y is =
    let rows = rows_between width col row repeat x y in_x is in
    let from_row = rows.0 in
    let on_canvas = is.on_canvas in
    let from = is.from in
    let to = is.to in
    let has_col : ltb col (tiles_along width) ≡ true = grind (arith, nat_tests) in
    let has_row : ltb row (tiles_along height) ≡ true = grind (arith, nat_tests) in
    let is_from : leb (tile_number width col row) (tile_number width (x / 64) (y / 64))
    ≡ true = grind (arith, nat_tests) in
    let is_to : leb (tile_number width (x / 64) (y / 64)) (tile_number width col row + repeat)
    ≡ true = grind (arith, nat_tests) in
    rw (has_col, has_row, is_from, is_to) refl

-- the pixel at a place of the canvas, by a test that passes if its tile is between the two
pub tiles_put_by : (width height col row repeat : ℕ) (content : TileContent) (x y : ℤ)
    (old : Channels) (i j : ℕ) (t : Bool)
    → is_in (canvas_rect width height) x y ≡ true → unsigned_abs x ≡ i → unsigned_abs y ≡ j
    → col < tiles_along width
    → (t ≡ true → (tile_number width col row ≤ tile_number width (i / 64) (j / 64))
    × (tile_number width (i / 64) (j / 64) ≤ tile_number width col row + repeat))
    → ((tile_number width col row ≤ tile_number width (i / 64) (j / 64))
    × (tile_number width (i / 64) (j / 64) ≤ tile_number width col row + repeat) → t ≡ true)
    → cond t (option_map_or (λ p. replaced_by p old) (content_at content i j) old) old
    ≡ cond (is_in (canvas_rect width height) x y) (tile_put width height col row repeat content
    (unsigned_abs x) (unsigned_abs y) old) old
tiles_put_by width height col row repeat content x y old i j t on x_is y_is on_canvas to from =
    let inside = is_in-true (canvas_rect width height) x y on in
    let x0 = inside.x0 in
    let x1 = inside.x1 in
    let y0 = inside.y0 in
    let y1 = inside.y1 in
    let in_x : i < width = omega (arith, ints) in
    let in_y : j < height = omega (arith, ints) in
    let put = λ (m n : ℕ). tile_put width height col row repeat content m n old in
    let test : t ≡ is_in_tiles width height col row repeat i j =
    same_test t (is_in_tiles width height col row repeat i j)
    (λ h. let both = to h in in_tiles width height col row repeat i j in_x in_y
    (record { on_canvas = on_canvas; from = both.0; to = both.1 }))
    (λ h. let is = between width height col row repeat i j h in from (is.from, is.to)) in
    ap (λ (b : Bool). cond b (option_map_or (λ p. replaced_by p old) (content_at content i j) old)
    old) test
    ∙ (sym (ap (λ (m : ℕ). put m (unsigned_abs y)) x_is ∙ ap (put i) y_is)
    ∙ sym (cond-true (is_in (canvas_rect width height) x y) (put (unsigned_abs x) (unsigned_abs y))
    old on))
