-- Rectangles that move.
use Rattle.std.proofs.Common.{◌≡◌, ℕ, ◌+◌, ◌-◌, ◌*◌, ◌<◌, ◌≤◌, List, ◌++◌, length, get_or, take}
use Rattle.std.proofs.Common.{drop, min, ltb, Bool, true, false, cond, refl, sym, ◌∙◌, ap, arith}
use Rattle.std.proofs.Common.{◌⊎◌, ⊎_elim}
use Rattle.std.proofs.lemmas.Bool.{cases_Bool, cases_lt, cond-true, cond-false}
use Rattle.std.proofs.lemmas.List.{get_or_append_left, get_or-append_right, get_or-take}
use Rattle.std.proofs.lemmas.List.{get_or-drop}
use Rattle.std.proofs.Math.Nat.{mul-le-mul_right}
use Rattle.std.specs.Prelude.{ℤ, pos, ◌-ℤ◌, unsigned_abs}
use Rattle.std.proofs.lemmas.Int.{ints}
use Rattle.std.proofs.lemmas.Bool.Decides.{nat_tests}
use Rattle.dp_blend.specs.Color.{Channels, clear}
use Rattle.dp_blend.specs.Canvas.{pixel_at}
use Rattle.dp_blend.specs.Blending.{blend}
use Rattle.dp_blend.specs.declared.modes.Mode.TheVariants.{Normal, Replace}
use Rattle.dp_pixels.specs.declared.rect.Place.{Place}
use Rattle.dp_pixels.specs.declared.rect.Rect.{Rect}
use Rattle.dp_pixels.specs.declared.region.Region.{Region}
use Rattle.dp_pixels.specs.Regions.{IsPainted, on_canvas}
use Rattle.dp_pixels.proofs.Whole.{CanvasLaw, whole_window, whole_at}
use Rattle.dp_pixels.specs.Rectangles.{canvas_rect, clipped, is_in, rect_at}
use Rattle.dp_pixels.specs.Commands.{image_index, moved, pixel_of, pixels_moved}
use Rattle.dp_pixels.proofs.SpanLemmas.{same_test}
use Rattle.dp_pixels.proofs.Rectangles.{IsIn, is_in-true, is_in_by, is_in-false, clipped_in}
use Rattle.dp_pixels.proofs.Rectangles.{clipped_by}

-- one row more is copied
pub copied_more : (pixels copied row : List Channels) (width x y w j i k : ℕ) (d : Channels)
    → length copied ≡ j * w
    → row ≡ take w (drop ((y + j) * width + x) pixels)
    → ((i k : ℕ) (d : Channels) → i < w → k < j → get_or copied (k * w + i) d
    ≡ get_or pixels ((y + k) * width + (x + i)) d)
    → i < w → k < j + 1 → get_or (copied ++ row) (k * w + i) d
    ≡ get_or pixels ((y + k) * width + (x + i)) d
copied_more pixels copied row width x y w j i k d len is before in_w in_rows =
    ⊎_elim
    (λ (above : k < j).
    let rows : (k + 1) * w ≤ j * w = mul-le-mul_right w (omega arith) in
    get_or_append_left copied row d (k * w + i) (omega arith) ∙ before i k d in_w above)
    (λ (last : j ≤ k).
    let k_is : k ≡ j = omega arith in
    let product : k * w ≡ j * w = ap (λ (n : ℕ). n * w) k_is in
    let column : k * w + i - j * w ≡ i = omega arith in
    let place : (y + j) * width + x + i ≡ (y + k) * width
    + (x + i) = omega (arith, ap (λ (n : ℕ). (y + n) * width) k_is) in
    get_or-append_right copied row (j * w) (k * w + i) d len (omega arith)
    ∙ (ap (λ (n : ℕ). get_or row n d) column
    ∙ (ap (λ (l : List Channels). get_or l i d) is
    ∙ (get_or-take w (drop ((y + j) * width + x) pixels) i d in_w
    ∙ (get_or-drop ((y + j) * width + x) pixels i d ∙ ap (λ (n : ℕ). get_or pixels n d) place)))))
    (cases_lt k j)

-- ---- the pixel at a place

-- the source, as far as it is on the canvas, is a rectangle of lesser sides
source_same : (width height sx sy w h across down : ℕ) (x y : ℤ) → across ≡ min w (width - sx)
    → down ≡ min h (height - sy)
    → is_in (clipped (rect_at (pos sx) (pos sy) w h) (canvas_rect width height)) x y
    ≡ is_in (rect_at (pos sx) (pos sy) across down) x y
source_same width height sx sy w h across down x y across_is down_is =
    let whole = rect_at (pos sx) (pos sy) w h in
    let part = rect_at (pos sx) (pos sy) across down in
    let canvas = canvas_rect width height in
    same_test (is_in (clipped whole canvas) x y) (is_in part x y)
    (λ test.
    let both = clipped_in whole canvas x y (is_in-true (clipped whole canvas) x y test) in
    let in_whole = both.0 in
    let on_canvas = both.1 in
    let x1 = in_whole.x1 in
    let y1 = in_whole.y1 in
    let cx1 = on_canvas.x1 in
    let cy1 = on_canvas.y1 in
    let x0 = in_whole.x0 in
    let y0 = in_whole.y0 in
    is_in_by part x y (record {
      x0 = x0;
      x1 = omega (arith, ints);
      y0 = y0;
      y1 = omega (arith, ints);
    }))
    (λ test.
    let inside = is_in-true part x y test in
    let x0 = inside.x0 in
    let x1 = inside.x1 in
    let y0 = inside.y0 in
    let y1 = inside.y1 in
    is_in_by (clipped whole canvas) x y (clipped_by whole canvas x y
    (record { x0 = x0; x1 = omega (arith, ints); y0 = y0; y1 = omega (arith, ints) })
    (record {
      x0 = omega (arith, ints);
      x1 = omega (arith, ints);
      y0 = omega (arith, ints);
      y1 =
          omega (arith, ints);
    })))

-- a place is in the target if the place moved back is in the source
target_same : (sx sy across down : ℕ) (tx ty x y : ℤ)
    → is_in (rect_at tx ty across down) x y ≡ is_in (rect_at (pos sx) (pos sy) across down)
    (x -ℤ (tx -ℤ pos sx)) (y -ℤ (ty -ℤ pos sy))
target_same sx sy across down tx ty x y =
    let target = rect_at tx ty across down in
    let source = rect_at (pos sx) (pos sy) across down in
    same_test (is_in target x y) (is_in source (x -ℤ (tx -ℤ pos sx)) (y -ℤ (ty -ℤ pos sy)))
    (λ test.
    let inside = is_in-true target x y test in
    let x0 = inside.x0 in
    let x1 = inside.x1 in
    let y0 = inside.y0 in
    let y1 = inside.y1 in
    is_in_by source (x -ℤ (tx -ℤ pos sx)) (y -ℤ (ty -ℤ pos sy))
    (record {
      x0 = omega (arith, ints);
      x1 = omega (arith, ints);
      y0 = omega (arith, ints);
      y1 =
          omega (arith, ints);
    }))
    (λ test.
    let inside = is_in-true source (x -ℤ (tx -ℤ pos sx)) (y -ℤ (ty -ℤ pos sy)) test in
    let x0 = inside.x0 in
    let x1 = inside.x1 in
    let y0 = inside.y0 in
    let y1 = inside.y1 in
    is_in_by target x y (record {
      x0 = omega (arith, ints);
      x1 = omega (arith, ints);
      y0 = omega
          (arith, ints);
      y1 = omega (arith, ints);
    }))

-- the old pixel at the place moved back, in the copy of the source
back_pixel : (width height sx sy across down : ℕ) (tx ty x y : ℤ) (old copied : List Channels)
    → sx + across ≤ width → sy + down ≤ height
    → ((i j : ℕ) (d : Channels) → i < across → j < down → get_or copied (j * across + i) d
    ≡ get_or old ((sy + j) * width + (sx + i)) d)
    → IsIn (rect_at tx ty across down) x y
    → get_or copied (image_index tx ty across x y) clear
    ≡ pixel_of width height old (x -ℤ (tx -ℤ pos sx)) (y -ℤ (ty -ℤ pos sy))
back_pixel width height sx sy across down tx ty x y old copied in_width in_height copy inside =
    let x0 = inside.x0 in
    let x1 = inside.x1 in
    let y0 = inside.y0 in
    let y1 = inside.y1 in
    let i = unsigned_abs (x -ℤ tx) in
    let j = unsigned_abs (y -ℤ ty) in
    let in_across : i < across = omega (arith, ints) in
    let in_down : j < down = omega (arith, ints) in
    let back_x : pos (sx + i) ≡ x -ℤ (tx -ℤ pos sx) = omega (arith, ints) in
    let back_y : pos (sy + j) ≡ y -ℤ (ty -ℤ pos sy) = omega (arith, ints) in
    let has_x : ltb (sx + i) width ≡ true = grind (arith, nat_tests) in
    let has_y : ltb (sy + j) height ≡ true = grind (arith, nat_tests) in
    let here : pixel_of width height old (pos (sx + i)) (pos (sy + j))
    ≡ pixel_at width old (sx + i) (sy + j) = rw (has_x, has_y) refl in
    copy i j clear in_across in_down
    ∙ (sym here ∙ (ap (λ (z : ℤ). pixel_of width height old z (pos (sy + j))) back_x
    ∙ ap (λ (z : ℤ). pixel_of width height old (x -ℤ (tx -ℤ pos sx)) z) back_y))

-- the old pixel at a place of the canvas
pub old_pixel : (width height x y : ℕ) (old : List Channels) → x < width → y < height
    → pixel_of width height old (pos x) (pos y) ≡ pixel_at width old x y
old_pixel width height x y old in_x in_y =
    let has_x : ltb x width ≡ true = grind (arith, nat_tests) in
    let has_y : ltb y height ≡ true = grind (arith, nat_tests) in
    rw (has_x, has_y) refl

-- if the source is empty nothing moves
pub moved_none : (width height sx sy w h across down : ℕ) (tx ty : ℤ) (x y : ℕ)
    (old : List Channels) → across ≡ min w (width - sx) → down ≡ min h (height - sy)
    → (across ≡ 0) ⊎ (down ≡ 0) → x < width → y < height
    → pixel_at width old x y ≡ moved width height sx sy w h tx ty (pixel_of width height old)
    (pos x) (pos y)
moved_none width height sx sy w h across down tx ty x y old across_is down_is none in_x in_y =
    let source = clipped (rect_at (pos sx) (pos sy) w h) (canvas_rect width height) in
    let out : (v z : ℤ) → is_in source v z ≡ false = λ v z.
    source_same width height sx sy w h across down v z across_is down_is
    ∙ is_in-false (rect_at (pos sx) (pos sy) across down) v z (λ inside.
    let x0 = inside.x0 in
    let x1 = inside.x1 in
    let y0 = inside.y0 in
    let y1 = inside.y1 in
    ⊎_elim (λ (zero : across ≡ 0). absurd (omega (arith, ints)))
    (λ (zero : down ≡ 0). absurd (omega (arith, ints))) none) in
    sym (cond-false (is_in source (pos x -ℤ (tx -ℤ pos sx)) (pos y -ℤ (ty -ℤ pos sy))) _ _ (out _ _)
    ∙ (cond-false (is_in source (pos x) (pos y)) clear _ (out (pos x) (pos y))
    ∙ old_pixel width height x y old in_x in_y))

-- the source is cleared, and the copy of it blended at the target
moved_at : (width height sx sy w h across down : ℕ) (tx ty : ℤ) (x y : ℕ)
    (old copied : List Channels) → across ≡ min w (width - sx) → down ≡ min h (height - sy)
    → sx + across ≤ width → sy + down ≤ height
    → ((i j : ℕ) (d : Channels) → i < across → j < down → get_or copied (j * across + i) d
    ≡ get_or old ((sy + j) * width + (sx + i)) d)
    → x < width → y < height
    → (let base = cond (is_in (rect_at (pos sx) (pos sy) across down) (pos x) (pos y)) clear
    (pixel_at width old x y) in
    cond (is_in (rect_at tx ty across down) (pos x) (pos y))
    (blend Normal (get_or copied (image_index tx ty across (pos x) (pos y)) clear) base) base)
    ≡ moved width height sx sy w h tx ty (pixel_of width height old) (pos x) (pos y)
moved_at width height sx sy w h across down tx ty x y old copied across_is down_is in_width
    in_height copy in_x in_y =
    let whole = clipped (rect_at (pos sx) (pos sy) w h) (canvas_rect width height) in
    let part = rect_at (pos sx) (pos sy) across down in
    let target = rect_at tx ty across down in
    let back_x = pos x -ℤ (tx -ℤ pos sx) in
    let back_y = pos y -ℤ (ty -ℤ pos sy) in
    let base = cond (is_in part (pos x) (pos y)) clear (pixel_at width old x y) in
    let base_is : base ≡ cond (is_in whole (pos x) (pos y)) clear
    (pixel_of width height old (pos x) (pos y)) =
    ap (λ (t : Bool). cond t clear (pixel_at width old x y))
    (sym (source_same width height sx sy w h across down (pos x) (pos y) across_is down_is))
    ∙ ap (cond (is_in whole (pos x) (pos y)) clear) (sym (old_pixel width height x y old in_x in_y))
    in
    let test : is_in target (pos x) (pos y) ≡ is_in whole back_x back_y =
    target_same sx sy across down tx ty (pos x) (pos y) ∙ sym
    (source_same width height sx sy w h across down back_x back_y across_is down_is) in
    let result = λ (q b : Channels). cond (is_in whole back_x back_y) (blend Normal q b) b in
    ⊎_elim
    (λ (inside : is_in target (pos x) (pos y) ≡ true).
    ap (λ (t : Bool). cond t (blend Normal (get_or copied (image_index tx ty across (pos x) (pos y))
    clear) base) base) test
    ∙ (ap (λ (q : Channels). result q base) (back_pixel width height sx sy across down tx ty (pos x)
    (pos y) old copied in_width in_height copy (is_in-true target (pos x) (pos y) inside))
    ∙ ap (result (pixel_of width height old back_x back_y)) base_is))
    (λ (outside : is_in target (pos x) (pos y) ≡ false).
    cond-false (is_in target (pos x) (pos y)) _ base outside
    ∙ (base_is ∙ sym (cond-false (is_in whole back_x back_y) _ _ (sym test ∙ outside))))
    (cases_Bool (is_in target (pos x) (pos y)))

-- a place of a canvas is on it
pub on_whole : (width height x y : ℕ) → x < width → y < height
    → is_in (canvas_rect width height) (pos x) (pos y) ≡ true
on_whole width height x y in_x in_y =
    is_in_by (canvas_rect width height) (pos x) (pos y) (record {
      x0 = omega (arith, ints);
      x1 = omega (arith, ints);
      y0 = omega (arith, ints);
      y1 = omega
          (arith, ints);
    })

-- a canvas on which the source is cleared and then the copy of it blended
pub move_whole : CanvasLaw → (width height sx sy w h across down : ℕ) (tx ty : ℤ) (region : Region)
    (area : Rect) (corner : Place) (old cleared new copied : List Channels)
    → region ≡ whole_window width height → length old ≡ width * height → across ≡ min w (width - sx)
    → down ≡ min h (height - sy)
    → sx + across ≤ width → sy + down ≤ height → area ≡ rect_at (pos sx) (pos sy) across down
    → corner.x ≡ tx → corner.y ≡ ty
    → ((i j : ℕ) (d : Channels) → i < across → j < down → get_or copied (j * across + i) d
    ≡ get_or old ((sy + j) * width + (sx + i)) d)
    → IsPainted region width (on_canvas region (λ x y p. cond (is_in area x y)
    (blend Replace clear p) p)) old cleared
    → IsPainted region width (on_canvas region (λ x y p. cond
    (is_in (rect_at corner.x corner.y across down) x y)
    (blend Normal (get_or copied (image_index corner.x corner.y across x y) clear) p) p))
    cleared new
    → new ≡ pixels_moved width height sx sy w h tx ty old
move_whole law width height sx sy w h across down tx ty region area corner old cleared new copied
    whole len across_is down_is in_width in_height area_is x_is y_is copy clears merges =
    law width height (λ x y. moved width height sx sy w h tx ty (pixel_of width height old) (pos x)
    (pos y)) new (merges.len ∙ (clears.len ∙ len)) (λ x y in_x in_y.
    let on : is_in (canvas_rect region.canvas_width region.canvas_height) (pos x) (pos y) ≡ true =
    ap (λ (v : Region). is_in (canvas_rect v.canvas_width v.canvas_height) (pos x) (pos y)) whole
    ∙ on_whole width height x y in_x in_y in
    let merged = λ (left top : ℤ) (p : Channels). cond (is_in (rect_at left top across down) (pos x)
    (pos y)) (blend Normal (get_or copied (image_index left top across (pos x) (pos y)) clear)
    p) p in
    let base = λ (r : Rect). cond (is_in r (pos x) (pos y)) clear (pixel_at width old x y) in
    whole_at width height region _ cleared new whole merges x y in_x in_y
    ∙ (cond-true (is_in (canvas_rect region.canvas_width region.canvas_height) (pos x) (pos y)) _
    (pixel_at width cleared x y) on
    ∙ (ap (merged corner.x corner.y) (whole_at width height region _ old cleared whole clears x y
    in_x in_y ∙ (cond-true (is_in (canvas_rect region.canvas_width region.canvas_height) (pos x)
    (pos y)) _ (pixel_at width old x y) on ∙ ap base area_is))
    ∙ (ap (λ (z : ℤ). merged z corner.y (base (rect_at (pos sx) (pos sy) across down))) x_is
    ∙ (ap (λ (z : ℤ). merged tx z (base (rect_at (pos sx) (pos sy) across down))) y_is
    ∙ moved_at width height sx sy w h across down tx ty x y old copied across_is down_is in_width
    in_height copy in_x in_y)))))
