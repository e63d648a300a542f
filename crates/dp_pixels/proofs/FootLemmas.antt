-- Where commands change pixels, and where they read them.
use Rattle.std.proofs.Common.{◌≡◌, ℕ, ◌*◌, ◌/◌, ◌<◌, ◌≤◌, List, [], ◌∷◌, Bool}
use Rattle.std.proofs.Common.{true, false, ◌&&◌, ◌||◌, cond, eqb, fold, map, Option, Some}
use Rattle.std.proofs.Common.{None, refl, sym, ◌∙◌, ap, arith, ◌⊎◌, inl, inr, ⊎_elim}
use Rattle.std.specs.Prelude.{◌==◌, ℤ, pos, ◌+ℤ◌, ◌-ℤ◌, ◌≤ℤ◌, ◌<ℤ◌, unsigned_abs}
use Rattle.std.specs.Prelude.{slice_get, int_lt, IsTrue, ◌↔◌}
use Rattle.std.specs.Int.{int_max, int_min}
use Rattle.std.specs.Option.{option_map_or}
use Rattle.std.proofs.lemmas.Int.{ints, int_max_is, int_min_is}
use Rattle.std.proofs.lemmas.Bool.{cases_Bool, cond-true, cond-false, eqb-true, and_left}
use Rattle.std.proofs.lemmas.Bool.{false≢true, or_left, or_parts, or_cases, and_parts}
use Rattle.std.proofs.lemmas.Bool.{eq-eqb, false_from_ne_true}
use Rattle.std.proofs.lemmas.Nat.{same_from_place}
use Rattle.dp_blend.specs.Color.{Channels, clear, of_argb, premultiplied, fade, from8}
use Rattle.dp_blend.specs.Blending.{blend, mode_numbered}
use Rattle.dp_blend.specs.declared.modes.Mode.{Mode}
use Rattle.dp_blend.specs.declared.modes.Mode.TheVariants.{Normal}
use Rattle.dp_msg_draw.specs.declared.draw.Draw.{Draw}
use Rattle.dp_msg_draw.specs.declared.draw.Draw.TheVariants as op
use Rattle.dp_msg_draw.specs.declared.draw.TileContent.{TileContent}
use Rattle.dp_pixels.specs.declared.rect.Rect.{Rect}
use Rattle.dp_pixels.specs.declared.dabs.PlacedDab.{PlacedDab}
use Rattle.dp_pixels.specs.declared.dabs.Shape.{Shape}
use Rattle.dp_pixels.specs.declared.dabs.Shape.TheVariants.{Round, Square}
use Rattle.dp_pixels.specs.Rectangles.{canvas_rect, clipped, is_in, joined, rect_at, share_place}
use Rattle.dp_pixels.specs.Dabs.{dab_covers, dab_rect, placed_dabs}
use Rattle.dp_pixels.specs.Commands.{dab_blended, dabs_blended, drawn, filled, image_color}
use Rattle.dp_pixels.specs.Commands.{image_index, imaged, moved, pixel_drawn, stroked}
use Rattle.dp_pixels.specs.Tiles.{tile_changed, is_in_tiles, tiles_along}
use Rattle.dp_pixels.specs.declared.feet.Footprint.{Footprint}
use Rattle.dp_pixels.specs.declared.feet.Footprint.TheVariants.{Area, Two, All}
use Rattle.dp_pixels.specs.Feet.{around, feet_meet, foot, foot_layer}
use Rattle.dp_pixels.specs.Feet.{greatest_canvas, is_in_foot, meets_area, on_greatest, on_side}
use Rattle.dp_pixels.proofs.Rectangles.{IsIn, is_in-true, is_in_by, is_in-false, in_or_out}
use Rattle.dp_pixels.proofs.Rectangles.{clipped_in, clipped_by}
use Rattle.dp_pixels.proofs.TileLaws.{IsBetween, between}

-- ---- one kind of command after the other: a place that it doesn't reach keeps its pixel

-- a change by a mode that keeps a pixel
mode_keeps : (f : Mode → Channels) (mode : Option Mode) (old : Channels) → ((m : Mode) → f m ≡ old)
    → option_map_or f mode old ≡ old
mode_keeps f None old keeps = refl
mode_keeps f (Some m) old keeps = keeps m

filled_keeps : (mode : ℕ) (area : Rect) (color : ℕ) (x y : ℤ) (old : Channels)
    → is_in area x y ≡ false → filled mode area color x y old ≡ old
filled_keeps mode area color x y old out =
    mode_keeps (λ m. cond (is_in area x y) (blend m (of_argb color) old) old) (mode_numbered mode)
    old (λ m. cond-false (is_in area x y) (blend m (of_argb color) old) old out)

imaged_keeps : (mode : ℕ) (left top : ℤ) (w h : ℕ) (colors : List ℕ) (x y : ℤ) (old : Channels)
    → is_in (rect_at left top w h) x y ≡ false
    → imaged mode left top w h colors x y old ≡ old
imaged_keeps mode left top w h colors x y old out =
    mode_keeps (λ m. option_map_or (λ color. blend m (of_argb color) old)
    (image_color left top w h colors x y) old) (mode_numbered mode) old (λ m.
    ap (λ (color : Option ℕ). option_map_or (λ n. blend m (of_argb n) old) color old)
    (cond-false (is_in (rect_at left top w h) x y) (slice_get colors (image_index left top w x y))
    None out))

-- a place in the square of one of the dabs is in the rectangle around them
joined_in : (a b : Rect) (x y : ℤ) → (IsIn a x y) ⊎ (IsIn b x y) → IsIn (joined a b) x y
joined_in a b x y (inl h) =
    let x0 = h.x0 in
    let x1 = h.x1 in
    let y0 = h.y0 in
    let y1 = h.y1 in
    record {
      x0 = omega (arith, ints, int_min_is a.x0 b.x0);
      x1 = omega (arith, ints, int_max_is a.x1 b.x1);
      y0 = omega (arith, ints, int_min_is a.y0 b.y0);
      y1 = omega (arith, ints, int_max_is a.y1 b.y1);
    }
joined_in a b x y (inr h) =
    let x0 = h.x0 in
    let x1 = h.x1 in
    let y0 = h.y0 in
    let y1 = h.y1 in
    record {
      x0 = omega (arith, ints, int_min_is a.x0 b.x0);
      x1 = omega (arith, ints, int_max_is a.x1 b.x1);
      y0 = omega (arith, ints, int_min_is a.y0 b.y0);
      y1 = omega (arith, ints, int_max_is a.y1 b.y1);
    }

-- a dab keeps what is outside of its square
dab_outside : (shape : Shape) (dab : PlacedDab) (x y : ℤ) → ¬ (IsIn (dab_rect dab) x y)
    → dab_covers shape dab x y ≡ false
dab_outside Square dab x y out = is_in-false (dab_rect dab) x y out
dab_outside Round dab x y out = and_left (is_in (dab_rect dab) x y) _
    (is_in-false (dab_rect dab) x y out)

dab_keeps : (shape : Shape) (mode : Mode) (source : Channels) (dab : PlacedDab) (x y : ℤ)
    (old : Channels) → ¬ (IsIn (dab_rect dab) x y)
    → dab_blended shape mode source dab x y old ≡ old
dab_keeps shape mode source dab x y old out = cond-false (dab_covers shape dab x y)
    (blend mode (fade source (from8 dab.opacity)) old) old (dab_outside shape dab x y out)

pub dab_stays : (shape : Shape) (mode : Mode) (source : Channels) (dab : PlacedDab) (x y : ℤ)
    (old : Channels) → is_in (dab_rect dab) x y ≡ false
    → dab_blended shape mode source dab x y old ≡ old
dab_stays shape mode source dab x y old out = dab_keeps shape mode source dab x y old
    (λ inside. false≢true (sym out ∙ is_in_by (dab_rect dab) x y inside))

-- dabs keep what is outside of the rectangle around a and them
dabs_keep_from : (shape : Shape) (mode : Mode) (source : Channels) (a : Rect)
    (dabs : List PlacedDab) (x y : ℤ) (old : Channels)
    → ¬ (IsIn (fold joined a (map dab_rect dabs)) x y) →
    (dabs_blended shape mode source dabs x y old ≡ old) × ¬ (IsIn a x y)
dabs_keep_from shape mode source a [] x y old out = (refl, out)
dabs_keep_from shape mode source a (dab ∷ dabs) x y old out =
    let rest = dabs_keep_from shape mode source (joined a (dab_rect dab)) dabs x y
    (dab_blended shape mode source dab x y old) out in (
      rest.0 ∙ dab_keeps shape mode source dab x y old (λ h. rest.1
          (joined_in a (dab_rect dab) x y (inr h))),
      λ h. rest.1
          (joined_in a (dab_rect dab) x y (inl h)),
    )

dabs_keep : (shape : Shape) (mode : Mode) (source : Channels) (dabs : List PlacedDab) (x y : ℤ)
    (old : Channels)
    → ¬ (IsIn (around dabs) x y) → dabs_blended shape mode source dabs x y old ≡ old
dabs_keep shape mode source [] x y old out = refl
dabs_keep shape mode source (dab ∷ dabs) x y old out =
    let rest = dabs_keep_from shape mode source (dab_rect dab) dabs x y
    (dab_blended shape mode source dab x y old) out in
    rest.0 ∙ dab_keeps shape mode source dab x y old rest.1

stroked_keeps : (mode : ℕ) (source : Channels) (shape : Shape) (dabs : List PlacedDab) (x y : ℤ)
    (old : Channels)
    → ¬ (IsIn (around dabs) x y) → stroked mode source shape dabs x y old ≡ old
stroked_keeps mode source shape dabs x y old out =
    mode_keeps (λ m. dabs_blended shape m source dabs x y old) (mode_numbered mode) old
    (λ m. dabs_keep shape m source dabs x y old out)

-- a tile keeps what is outside of its square
tile_square : (width col row repeat x y : ℕ) → x < width → repeat ≡ 0
    → IsBetween width col row repeat x y → (x / 64 ≡ col) × (y / 64 ≡ row)
tile_square width col row repeat x y in_x none is =
    let on_canvas = is.on_canvas in
    let from = is.from in
    let to = is.to in
    let both = same_from_place (y / 64) (x / 64) row col (tiles_along width) (omega arith) on_canvas
    (omega arith) in
    (both.1, both.0)

-- ---- places of a canvas

on_canvas_keeps : (canvas : Rect) (x y : ℤ) (new old : Channels) → (IsIn canvas x y → new ≡ old)
    → cond (is_in canvas x y) new old ≡ old
on_canvas_keeps canvas x y new old keeps =
    ⊎_elim (λ (on : is_in canvas x y ≡ true). cond-true (is_in canvas x y) new old on
    ∙ keeps (is_in-true canvas x y on))
    (λ (off : is_in canvas x y ≡ false). cond-false (is_in canvas x y) new old off)
    (in_or_out canvas x y)

-- a place of the canvas is one of the greatest canvas
in_greatest : (width height : ℕ) (x y : ℤ) → width ≤ 4096 → height ≤ 4096
    → IsIn (canvas_rect width height) x y → IsIn greatest_canvas x y
in_greatest width height x y narrow low on =
    let x1 = on.x1 in
    let y1 = on.y1 in
    record { x0 = on.x0; x1 = omega (arith, ints); y0 = on.y0; y1 = omega (arith, ints) }

-- the places of a rectangle that are on the greatest canvas
on_greatest_by : (r : Rect) (x y : ℤ) → IsIn r x y → IsIn greatest_canvas x y
    → IsIn (on_greatest r) x y
on_greatest_by r x y h on =
    let hx0 = h.x0 in
    let hx1 = h.x1 in
    let hy0 = h.y0 in
    let hy1 = h.y1 in
    let x0 = on.x0 in
    let x1 = on.x1 in
    let y0 = on.y0 in
    let y1 = on.y1 in
    record {
      x0 = at_least r.x0 x hx0 x0;
      x1 = below r.x1 x hx1 x1;
      y0 = at_least r.y0 y hy0 y0;
      y1 = below r.y1 y hy1 y1;
    }
  where
    at_least : (a z : ℤ) → a ≤ℤ z → pos 0 ≤ℤ z → on_side a ≤ℤ z
    at_least a z from zero = omega (
      arith,
      ints,
      int_max_is (pos 0) (int_min a (pos 4096)),
      int_min_is a (pos 4096),
    )

    below : (b z : ℤ) → z <ℤ b → z <ℤ (pos 0 +ℤ pos 4096) → z <ℤ on_side b
    below b z to most = omega (
      arith,
      ints,
      int_max_is (pos 0) (int_min b (pos 4096)),
      int_min_is b (pos 4096),
    )

-- outside of a rectangle as far as it is on the greatest canvas
out_of_area : (r : Rect) (width height : ℕ) (x y : ℤ) → width ≤ 4096 → height ≤ 4096
    → is_in (on_greatest r) x y ≡ false
    → IsIn (canvas_rect width height) x y → ¬ (IsIn r x y)
out_of_area r width height x y narrow low out on inside =
    absurd (false≢true (sym out ∙ is_in_by (on_greatest r) x y
    (on_greatest_by r x y inside (in_greatest width height x y narrow low on))))

tile_keeps : (width height col row repeat : ℕ) (content : TileContent) (x y : ℤ) (old : Channels)
    → width ≤ 4096 → height ≤ 4096
    → is_in (cond (eqb repeat 0) (on_greatest (rect_at (pos (col * 64)) (pos (row * 64)) 64 64))
    greatest_canvas) x y ≡ false
    → IsIn (canvas_rect width height) x y → tile_changed width height col row repeat content x y old
    ≡ old
tile_keeps width height col row repeat content x y old narrow low out on =
    let square = rect_at (pos (col * 64)) (pos (row * 64)) 64 64 in
    let i = unsigned_abs x in
    let j = unsigned_abs y in
    let test = is_in_tiles width height col row repeat i j in
    let x0 = on.x0 in
    let x1 = on.x1 in
    let y0 = on.y0 in
    let y1 = on.y1 in
    ⊎_elim
    (λ (none : eqb repeat 0 ≡ true).
    let outside = out_of_area square width height x y narrow low
    (sym (ap (λ (r : Rect). is_in r x y) (cond-true (eqb repeat 0)
    (on_greatest square) greatest_canvas none)) ∙ out) on in
    ⊎_elim
    (λ (has : test ≡ true).
    let in_x : i < width = omega (arith, ints) in
    let at = tile_square width col row repeat i j in_x (eqb-true repeat 0 none)
    (between width height col row repeat i j has) in
    let column = at.0 in
    let line = at.1 in
    absurd (outside (record {
      x0 = omega (arith, ints);
      x1 = omega (arith, ints);
      y0 = omega
          (arith, ints);
      y1 = omega (arith, ints);
    })))
    (λ (hasnt : test ≡ false). cond-false test _ old hasnt)
    (cases_Bool test))
    (λ (some : eqb repeat 0 ≡ false).
    let outside = sym (ap (λ (r : Rect). is_in r x y) (cond-false (eqb repeat 0)
    (on_greatest square) greatest_canvas some)) ∙ out in
    absurd (false≢true (sym outside ∙ is_in_by greatest_canvas x y
    (in_greatest width height x y narrow low on))))
    (cases_Bool (eqb repeat 0))

-- ---- MoveRect

moved_keeps : (width height sx sy w h : ℕ) (tx ty : ℤ) (old : ℤ → ℤ → Channels) (x y : ℤ)
    → width ≤ 4096 → height ≤ 4096
    → is_in (on_greatest (rect_at (pos sx) (pos sy) w h)) x y ≡ false
    → is_in (on_greatest (rect_at tx ty w h)) x y ≡ false
    → IsIn (canvas_rect width height) x y → moved width height sx sy w h tx ty old x y ≡ old x y
moved_keeps width height sx sy w h tx ty old x y narrow low out_from out_to on =
    let from = rect_at (pos sx) (pos sy) w h in
    let to = rect_at tx ty w h in
    let canvas = canvas_rect width height in
    let source = clipped from canvas in
    let back_x = x -ℤ (tx -ℤ pos sx) in
    let back_y = y -ℤ (ty -ℤ pos sy) in
    let base = cond (is_in source x y) clear (old x y) in
    let here : is_in source x y ≡ false = is_in-false source x y
    (λ inside. out_of_area from width height x y narrow low out_from on
    (clipped_in from canvas x y inside).0) in
    let there : is_in source back_x back_y ≡ false = is_in-false source back_x back_y (λ inside.
    let back = (clipped_in from canvas back_x back_y inside).0 in
    let x0 = back.x0 in
    let x1 = back.x1 in
    let y0 = back.y0 in
    let y1 = back.y1 in
    out_of_area to width height x y narrow low out_to on
    (record {
      x0 = omega (arith, ints);
      x1 = omega (arith, ints);
      y0 = omega (arith, ints);
      y1 =
          omega (arith, ints);
    })) in
    cond-false (is_in source back_x back_y) _ base there
    ∙ cond-false (is_in source x y) clear (old x y) here

-- ---- the laws

pub drawn_keeps : (width height : ℕ) (d : Draw) (old : ℤ → ℤ → Channels) (x y : ℤ)
    → width ≤ 4096 → height ≤ 4096 → is_in_foot (foot d) x y ≡ false
    → drawn width height d old x y ≡ old x y
drawn_keeps width height (op.PutImage layer mode left top w h colors) old x y narrow low out =
    on_canvas_keeps (canvas_rect width height) x y _ (old x y) (λ on.
    imaged_keeps mode (pos left) (pos top) w h colors x y (old x y)
    (is_in-false (rect_at (pos left) (pos top) w h) x y (out_of_area
    (rect_at (pos left) (pos top) w h) width height x y narrow low out on)))
drawn_keeps width height (op.FillRect layer mode left top w h color) old x y narrow low out =
    on_canvas_keeps (canvas_rect width height) x y _ (old x y) (λ on.
    filled_keeps mode (rect_at (pos left) (pos top) w h) color x y (old x y)
    (is_in-false (rect_at (pos left) (pos top) w h) x y (out_of_area
    (rect_at (pos left) (pos top) w h) width height x y narrow low out on)))
drawn_keeps width height (op.PutTile layer col row repeat content) old x y narrow low out =
    on_canvas_keeps (canvas_rect width height) x y _ (old x y)
    (λ on. tile_keeps width height col row repeat content x y (old x y) narrow low out on)
drawn_keeps width height (op.DabsRound layer left top r g b mode dabs) old x y narrow low out =
    on_canvas_keeps (canvas_rect width height) x y _ (old x y) (λ on.
    stroked_keeps mode (premultiplied r g b 255) Round (placed_dabs left top dabs) x y (old x y)
    (out_of_area (around (placed_dabs left top dabs)) width height x y narrow low out on))
drawn_keeps width height (op.DabsSquare layer left top r g b mode dabs) old x y narrow low out =
    on_canvas_keeps (canvas_rect width height) x y _ (old x y) (λ on.
    stroked_keeps mode (premultiplied r g b 255) Square (placed_dabs left top dabs) x y (old x y)
    (out_of_area (around (placed_dabs left top dabs)) width height x y narrow low out on))
drawn_keeps width height (op.MoveRect layer sx sy w h tx ty) old x y narrow low out =
    on_canvas_keeps (canvas_rect width height) x y _ (old x y) (λ on.
    let both = or_parts (is_in (on_greatest (rect_at (pos sx) (pos sy) w h)) x y)
    (is_in (on_greatest (rect_at tx ty w h)) x y) out in
    moved_keeps width height sx sy w h tx ty old x y narrow low both.0 both.1 on)
drawn_keeps width height _ old x y narrow low out = absurd (false≢true (sym out))

-- MoveRect goes by the old pixel at the place and those of its source
moved_same : (width height sx sy w h : ℕ) (tx ty : ℤ) (old other : ℤ → ℤ → Channels) (x y : ℤ)
    → width ≤ 4096 → height ≤ 4096 → old x y ≡ other x y
    → ((v z : ℤ) → IsIn (canvas_rect width height) v z → IsIn
    (on_greatest (rect_at (pos sx) (pos sy) w h)) v z → old v z ≡ other v z)
    → moved width height sx sy w h tx ty old x y ≡ moved width height sx sy w h tx ty other x y
moved_same width height sx sy w h tx ty old other x y narrow low here same =
    let from = rect_at (pos sx) (pos sy) w h in
    let canvas = canvas_rect width height in
    let source = clipped from canvas in
    let back_x = x -ℤ (tx -ℤ pos sx) in
    let back_y = y -ℤ (ty -ℤ pos sy) in
    let base = λ (p : Channels). cond (is_in source x y) clear p in
    let result = λ (q p : Channels). cond (is_in source back_x back_y) (blend Normal q (base p))
    (base p) in
    ap (result (old back_x back_y)) here
    ∙ ⊎_elim
    (λ (inside : is_in source back_x back_y ≡ true).
    let back = clipped_in from canvas back_x back_y (is_in-true source back_x back_y inside) in
    let greatest = on_greatest_by from back_x back_y back.0
    (in_greatest width height back_x back_y narrow low back.1) in
    ap (λ (q : Channels). result q (other x y)) (same back_x back_y back.1 greatest))
    (λ (outside : is_in source back_x back_y ≡ false).
    cond-false (is_in source back_x back_y) (blend Normal (old back_x back_y) (base (other x y)))
    (base (other x y)) outside
    ∙ sym (cond-false (is_in source back_x back_y) (blend Normal (other back_x back_y)
    (base (other x y))) (base (other x y)) outside))
    (cases_Bool (is_in source back_x back_y))

pub drawn_same : (width height : ℕ) (d : Draw) (old other : ℤ → ℤ → Channels) (x y : ℤ)
    → width ≤ 4096 → height ≤ 4096 → old x y ≡ other x y
    → ((v z : ℤ) → IsTrue (is_in (canvas_rect width height) v z) → IsTrue (is_in_foot (foot d) v z)
    → old v z ≡ other v z)
    → drawn width height d old x y ≡ drawn width height d other x y
drawn_same width height (op.CanvasResize top right bottom left) old other x y narrow low here same =
    ap (pixel_drawn width height (op.CanvasResize top right bottom left) x y) here
drawn_same width height (op.LayerCreate id parent group title) old other x y narrow low here same =
    ap (pixel_drawn width height (op.LayerCreate id parent group title) x y) here
drawn_same width height (op.LayerAttr id opacity mode hidden) old other x y narrow low here same =
    ap (pixel_drawn width height (op.LayerAttr id opacity mode hidden) x y) here
drawn_same width height (op.LayerTitle id title) old other x y narrow low here same = ap
    (pixel_drawn width height (op.LayerTitle id title) x y) here
drawn_same width height (op.LayerMove id parent above) old other x y narrow low here same = ap
    (pixel_drawn width height (op.LayerMove id parent above) x y) here
drawn_same width height (op.LayerDelete id) old other x y narrow low here same = ap
    (pixel_drawn width height (op.LayerDelete id) x y) here
drawn_same width height (op.Background color) old other x y narrow low here same = ap
    (pixel_drawn width height (op.Background color) x y) here
drawn_same width height (op.PutImage layer mode left top w h colors) old other x y narrow low here
    same = ap (pixel_drawn width height (op.PutImage layer mode left top w h colors) x y) here
drawn_same width height (op.FillRect layer mode left top w h color) old other x y narrow low here
    same = ap (pixel_drawn width height (op.FillRect layer mode left top w h color) x y) here
drawn_same width height (op.PutTile layer col row repeat content) old other x y narrow low here same
    = ap (pixel_drawn width height (op.PutTile layer col row repeat content) x y) here
drawn_same width height (op.DabsRound layer left top r g b mode dabs) old other x y narrow low here
    same = ap (pixel_drawn width height (op.DabsRound layer left top r g b mode dabs) x y) here
drawn_same width height (op.DabsSquare layer left top r g b mode dabs) old other x y narrow low here
    same = ap (pixel_drawn width height (op.DabsSquare layer left top r g b mode dabs) x y) here
drawn_same width height (op.MoveRect layer sx sy w h tx ty) old other x y narrow low here same =
    let canvas = canvas_rect width height in
    let source = on_greatest (rect_at (pos sx) (pos sy) w h) in
    ap (cond (is_in canvas x y) (moved width height sx sy w h tx ty old x y)) here
    ∙ ap (λ (p : Channels). cond (is_in canvas x y) p (other x y))
    (moved_same width height sx sy w h tx ty old other x y narrow low here (λ v z on inside.
    same v z (is_in_by canvas v z on) (or_left (is_in source v z) _ (is_in_by source v z inside))))

-- ---- rectangles and feet that meet

-- the common places of two rectangles
shared_by : (a b : Rect) (x y : ℤ) → IsIn a x y → IsIn b x y → share_place a b ≡ true
shared_by a b x y h k =
    let both = clipped_by a b x y h k in
    let x0 = both.x0 in
    let x1 = both.x1 in
    let y0 = both.y0 in
    let y1 = both.y1 in
    let across : int_lt (int_max a.x0 b.x0) (int_min a.x1 b.x1)
    ≡ true = within (int_max a.x0 b.x0) x (int_min a.x1 b.x1) x0 x1 in
    let down : int_lt (int_max a.y0 b.y0) (int_min a.y1 b.y1)
    ≡ true = within (int_max a.y0 b.y0) y (int_min a.y1 b.y1) y0 y1 in
    rw (across, down) refl
  where
    within : (low z high : ℤ) → low ≤ℤ z → z <ℤ high → int_lt low high ≡ true
    within low z high from before = grind (arith, ints)

pub shared : (a b : Rect) → IsTrue (share_place a b) ↔ ((x : ℤ) × (y : ℤ) × IsTrue (is_in a x y)
    × IsTrue (is_in b x y))
shared a b = (
  λ test.
      let x = int_max a.x0 b.x0 in
      let y = int_max a.y0 b.y0 in
      let both = and_parts (int_lt x (int_min a.x1 b.x1)) (int_lt y (int_min a.y1 b.y1)) test in
      let corner : IsIn (clipped a b) x y = record {
        x0 = omega (arith, ints);
        x1 = below x
            (int_min a.x1 b.x1) both.0;
        y0 = omega (arith, ints);
        y1 = below y (int_min a.y1 b.y1)
            both.1;
      } in
      let inside = clipped_in a b x y corner in
      (x, y, is_in_by a x y inside.0, is_in_by b x y inside.1),
  λ place. shared_by a b place.0 place.1 (is_in-true a place.0 place.1 place.2)
      (is_in-true b place.0 place.1 place.3),
)
  where
    below : (y z : ℤ) → int_lt y z ≡ true → y <ℤ z
    below y z h = grind (arith, ints)

-- a place of a rectangle is not in one that it shares no place with
pub apart : (a b : Rect) (x y : ℤ) → share_place a b ≡ false → is_in a x y ≡ true
    → is_in b x y ≡ false
apart a b x y none inside =
    false_from_ne_true (is_in b x y) (λ other. false≢true
    (sym none ∙ shared_by a b x y (is_in-true a x y inside) (is_in-true b x y other)))

-- two names that are the same number, in a test
same_test : (l m : ℕ) (p : Bool) → Some l ≡ Some m → (l == m && p) ≡ false → p ≡ false
same_test l m p same test =
    let number : l ≡ m = ap (λ (o : Option ℕ). option_map_or (λ n. n) o 0) same in
    ap (λ (q : Bool). q && p) (sym (eq-eqb l m number)) ∙ test

-- a place of a foot is not in a rectangle that the foot doesn't meet
apart_area : (a : Footprint) (layer : ℕ) (area : Rect) (x y : ℤ) → foot_layer a ≡ Some layer
    → meets_area a layer area ≡ false → is_in_foot a x y ≡ true → is_in area x y ≡ false
apart_area (Area l rect) layer area x y same none inside = apart rect area x y
    (same_test l layer (share_place rect area) same none) inside
apart_area (Two l from to) layer area x y same none inside =
    let both = or_parts (share_place from area) (share_place to area)
    (same_test l layer (share_place from area || share_place to area) same none) in
    ⊎_elim (apart from area x y both.0) (apart to area x y both.1)
    (or_cases (is_in from x y) (is_in to x y) inside)
apart_area All layer area x y same none inside = absurd (false≢true (sym none))

pub apart_feet : (a b : Footprint) (x y : ℤ) → foot_layer a ≡ foot_layer b → feet_meet a b ≡ false
    → is_in_foot a x y ≡ true → is_in_foot b x y ≡ false
apart_feet a (Area layer rect) x y same none inside = apart_area a layer rect x y same none inside
apart_feet a (Two layer from to) x y same none inside =
    let both = or_parts (meets_area a layer from) (meets_area a layer to) none in
    rw (
      apart_area a layer from x y same both.0 inside,
      apart_area a layer to x y same both.1
          inside,
    ) refl
apart_feet a All x y same none inside = absurd (false≢true (sym none))
