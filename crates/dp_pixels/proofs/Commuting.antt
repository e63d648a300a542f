-- Commands on one layer whose feet don't meet.
use Rattle.std.proofs.Common.{◌≡◌, ℕ, ◌<◌, ◌≤◌, List, true, false, sym, ◌∙◌, arith, ⊎_elim}
use Rattle.std.specs.Prelude.{ℤ, pos, negsuc}
use Rattle.std.proofs.lemmas.Int.{ints}
use Rattle.std.proofs.lemmas.Bool.{cases_Bool, false≢true, false_from_ne_true}
use Rattle.dp_blend.specs.Color.{Channels}
use Rattle.dp_blend.specs.Canvas.{canvas_of, pixel_at}
use Rattle.dp_msg_draw.specs.declared.draw.Draw.{Draw}
use Rattle.dp_pixels.specs.Commands.{drawn, pixel_of, pixels_after}
use Rattle.dp_pixels.specs.Feet.{feet_meet, foot, foot_layer, is_in_foot}
use Rattle.dp_pixels.specs.Rectangles.{canvas_rect, is_in}
use Rattle.dp_pixels.proofs.Rectangles.{is_in-true}
use Rattle.dp_pixels.proofs.FootLemmas.{apart_feet, drawn_keeps, drawn_same}
use Rattle.dp_pixels.proofs.Moves.{old_pixel, on_whole}

-- the laws of canvases that it rests on
abbrev pub PixelLaw : Type 0
PixelLaw = (width height : ℕ) (f : ℕ → ℕ → Channels) (x y : ℕ) → x < width → y < height
    → pixel_at width (canvas_of width height f) x y ≡ f x y

abbrev pub EqualLaw : Type 0
EqualLaw = (width height : ℕ) (f g : ℕ → ℕ → Channels)
    → ((x y : ℕ) → x < width → y < height → f x y ≡ g x y)
    → canvas_of width height f ≡ canvas_of width height g

-- a place in the second foot isn't in the first
out_of_first : (a b : Draw) (x y : ℤ) → foot_layer (foot a) ≡ foot_layer (foot b)
    → feet_meet (foot a) (foot b) ≡ false → is_in_foot (foot b) x y ≡ true
    → is_in_foot (foot a) x y ≡ false
out_of_first a b x y layer far inside =
    false_from_ne_true (is_in_foot (foot a) x y) (λ both.
    false≢true (sym (apart_feet (foot a) (foot b) x y layer far both) ∙ inside))

-- at one place: if it is in the foot of one, the other changes nothing that matters there
at_place : (w h : ℕ) (a b : Draw) (old : ℤ → ℤ → Channels) (x y : ℤ)
    → w ≤ 4096 → h ≤ 4096 → foot_layer (foot a) ≡ foot_layer (foot b)
    → feet_meet (foot a) (foot b) ≡ false
    → drawn w h b (drawn w h a old) x y ≡ drawn w h a (drawn w h b old) x y
at_place w h a b old x y narrow low layer far =
    ⊎_elim
    (λ (inside : is_in_foot (foot a) x y ≡ true).
    let out = apart_feet (foot a) (foot b) x y layer far inside in
    drawn_keeps w h b (drawn w h a old) x y narrow low out
    ∙ drawn_same w h a old (drawn w h b old) x y narrow low
    (sym (drawn_keeps w h b old x y narrow low out))
    (λ v z on at. sym (drawn_keeps w h b old v z narrow low
    (apart_feet (foot a) (foot b) v z layer far at))))
    (λ (outside : is_in_foot (foot a) x y ≡ false).
    drawn_same w h b (drawn w h a old) old x y narrow low
    (drawn_keeps w h a old x y narrow low outside)
    (λ v z on at. drawn_keeps w h a old v z narrow low (out_of_first a b v z layer far at))
    ∙ sym (drawn_keeps w h a (drawn w h b old) x y narrow low outside))
    (cases_Bool (is_in_foot (foot a) x y))

-- the pixel of a layer after a command, at a place of the canvas
pixel_then : PixelLaw → (w h : ℕ) (d : Draw) (pixels : List Channels) (x y : ℤ)
    → is_in (canvas_rect w h) x y ≡ true
    → pixel_of w h (pixels_after w h d pixels) x y ≡ drawn w h d (pixel_of w h pixels) x y
pixel_then law w h d pixels (pos x) (pos y) on =
    let at = is_in-true (canvas_rect w h) (pos x) (pos y) on in
    let across = at.x1 in
    let down = at.y1 in
    let in_x : x < w = omega (arith, ints) in
    let in_y : y < h = omega (arith, ints) in
    old_pixel w h x y (pixels_after w h d pixels) in_x in_y
    ∙ law w h (λ i j. drawn w h d (pixel_of w h pixels) (pos i) (pos j)) x y in_x in_y
pixel_then law w h d pixels (negsuc x) y on =
    let left = (is_in-true (canvas_rect w h) (negsuc x) y on).x0 in absurd (omega (arith, ints))
pixel_then law w h d pixels (pos x) (negsuc y) on =
    let top = (is_in-true (canvas_rect w h) (pos x) (negsuc y) on).y0 in
    absurd (omega (arith, ints))

pub commute : PixelLaw → EqualLaw → (w h : ℕ) (a b : Draw) (pixels : List Channels)
    → w ≤ 4096 → h ≤ 4096 → foot_layer (foot a) ≡ foot_layer (foot b)
    → feet_meet (foot a) (foot b) ≡ false
    → pixels_after w h b (pixels_after w h a pixels)
    ≡ pixels_after w h a (pixels_after w h b pixels)
commute law equal w h a b pixels narrow low layer far =
    let old = pixel_of w h pixels in
    let after_a = pixel_of w h (pixels_after w h a pixels) in
    let after_b = pixel_of w h (pixels_after w h b pixels) in
    equal w h (λ x y. drawn w h b after_a (pos x) (pos y))
    (λ x y. drawn w h a after_b (pos x) (pos y))
    (λ x y in_x in_y.
    let on = on_whole w h x y in_x in_y in
    drawn_same w h b after_a (drawn w h a old) (pos x) (pos y) narrow low
    (pixel_then law w h a pixels (pos x) (pos y) on)
    (λ v z there at. pixel_then law w h a pixels v z there)
    ∙ at_place w h a b old (pos x) (pos y) narrow low layer far
    ∙ sym (drawn_same w h a after_b (drawn w h b old) (pos x) (pos y) narrow low
    (pixel_then law w h b pixels (pos x) (pos y) on)
    (λ v z there at. pixel_then law w h b pixels v z there)))
