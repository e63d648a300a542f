-- Commands make pixels of pixels.
use Rattle.std.proofs.Common.{◌≡◌, ℕ, zero, suc, ◌*◌, ◌/◌, ◌<◌, ◌≤◌, List, [], ◌∷◌, Bool, true}
use Rattle.std.proofs.Common.{false, cond, length, Option, Some, None, refl, sym, subst, arith}
use Rattle.std.specs.Prelude.{◌^◌, ◌%◌, nat_le, ◌&&◌, ℤ, pos, ◌-ℤ◌, slice_get, unsigned_abs, IsTrue}
use Rattle.std.specs.List.{All, enumerate_from}
use Rattle.std.specs.Option.{option_map_or}
use Rattle.std.proofs.lemmas.Bool.{leb-true, and_parts}
use Rattle.std.proofs.lemmas.List.Elements.{All-map}
use Rattle.std.proofs.lemmas.List.FromFn.{length-enumerate_from, get_or-enumerate_from}
use Rattle.std.proofs.Math.Nat.{mul-le-mul_right}
use Rattle.dp_blend.specs.Color.{Channels, IsPixel, clear, of_argb, premultiplied, fade, from8, mul}
use Rattle.dp_blend.specs.Blending.{blend, mode_numbered}
use Rattle.dp_blend.specs.declared.modes.Mode.{Mode}
use Rattle.dp_blend.specs.declared.modes.Mode.TheVariants.{Normal}
use Rattle.dp_msg_draw.specs.declared.draw.Draw.{Draw}
use Rattle.dp_msg_draw.specs.declared.draw.Draw.TheVariants as op
use Rattle.dp_msg_draw.specs.declared.draw.TileContent.{TileContent}
use Rattle.dp_msg_draw.specs.declared.lists.Dab.{Dab}
use Rattle.dp_msg_draw.specs.declared.lists.TilePixel.{TilePixel}
use Rattle.dp_pixels.specs.declared.rect.Rect.{Rect}
use Rattle.dp_pixels.specs.declared.dabs.PlacedDab.{PlacedDab}
use Rattle.dp_pixels.specs.declared.dabs.Shape.{Shape}
use Rattle.dp_pixels.specs.declared.dabs.Shape.TheVariants.{Round, Square}
use Rattle.dp_pixels.specs.Rectangles.{canvas_rect, clipped, is_in, rect_at}
use Rattle.dp_pixels.specs.Dabs.{dab_covers, placed_dabs}
use Rattle.dp_pixels.specs.Colors.{FitsColors, FitsStroke}
use Rattle.dp_pixels.specs.Commands.{dab_blended, dabs_blended, drawn, filled, image_color}
use Rattle.dp_pixels.specs.Commands.{image_index, imaged, moved, stroked}
use Rattle.dp_pixels.specs.Tiles.{content_at, is_in_tiles, is_tile_pixel, replaced_by, tile_changed}
use Rattle.dp_pixels.proofs.Rectangles.{is_in_by, is_in-true, clipped_in}

-- ---- colours

byte_within : (v : ℕ) → v < 2 ^ 8 → from8 v ≤ 32768
byte_within v h = omega arith

-- a part of a byte's channel
part_within : (c a : ℕ) → c ≤ 32768 → mul c a ≤ a
part_within c a h = let e : c * a ≤ 32768 * a = mul-le-mul_right a h in omega (arith, e)

premultiplied-IsPixel : (r g b a : ℕ) → r < 2 ^ 8 → g < 2 ^ 8 → b < 2 ^ 8 → a < 2 ^ 8
    → IsPixel (premultiplied r g b a)
premultiplied-IsPixel r g b a red green blue alpha = record {
  r = part_within (from8 r) (from8 a) (byte_within r red);
  g = part_within (from8 g) (from8 a) (byte_within g green);
  b = part_within (from8 b) (from8 a) (byte_within b blue);
  a = byte_within a alpha;
}

of_argb-IsPixel : (n : ℕ) → n < 2 ^ 32 → IsPixel (of_argb n)
of_argb-IsPixel n h =
    premultiplied-IsPixel (n / 65536 % 256) (n / 256 % 256) (n % 256) (n / 16777216) (omega arith)
    (omega arith) (omega arith) (omega arith)

clear-IsPixel : IsPixel clear
clear-IsPixel = record { r = omega arith; g = omega arith; b = omega arith; a = omega arith }

replaced-IsPixel : (p : TilePixel) (old : Channels) → IsPixel old → IsPixel (replaced_by p old)
replaced-IsPixel p old h =
    pick (is_tile_pixel p) (λ is.
    let first = and_parts (nat_le p.r p.a && nat_le p.g p.a && nat_le p.b p.a) (nat_le p.a 32768) is
    in
    let second = and_parts (nat_le p.r p.a && nat_le p.g p.a) (nat_le p.b p.a) first.0 in
    let third = and_parts (nat_le p.r p.a) (nat_le p.g p.a) second.0 in
    record {
      r = leb-true p.r p.a third.0;
      g = leb-true p.g p.a third.1;
      b = leb-true p.b p.a second.1;
      a = leb-true p.a 32768 first.1;
    })
  where
    pick : (test : Bool) → (test ≡ true → IsPixel (record { r = p.r; g = p.g; b = p.b; a = p.a }))
        → IsPixel (cond test (record { r = p.r; g = p.g; b = p.b; a = p.a }) old)
    pick true is = is refl
    pick false is = h

-- a pixel by a test
either : (test : Bool) (p q : Channels) → IsPixel p → IsPixel q → IsPixel (cond test p q)
either true p q h k = h
either false p q h k = k

-- a change by a mode
by_mode : (f : Mode → Channels) (mode : Option Mode) (old : Channels) → ((m : Mode) → IsPixel (f m))
    → IsPixel old → IsPixel (option_map_or f mode old)
by_mode f None old h k = k
by_mode f (Some m) old h k = h m

-- ---- commands

tile-IsPixel : (width height col row repeat : ℕ) (content : TileContent) (x y : ℤ) (old : Channels)
    → IsPixel old
    → IsPixel (tile_changed width height col row repeat content x y old)
tile-IsPixel width height col row repeat content x y old h =
    either (is_in_tiles width height col row repeat (unsigned_abs x) (unsigned_abs y)) _ old
    (put (content_at content (unsigned_abs x) (unsigned_abs y))) h
  where
    put : (p : Option TilePixel) → IsPixel (option_map_or (λ p. replaced_by p old) p old)
    put None = h
    put (Some p) = replaced-IsPixel p old h

-- what dp_blend says of pixels
abbrev pub Blends : Type 0
Blends = (mode : Mode) (src dst : Channels) → IsPixel src → IsPixel dst
    → IsPixel (blend mode src dst)

abbrev pub Fades : Type 0
Fades = (p : Channels) (m : ℕ) → IsPixel p → m ≤ 32768 → IsPixel (fade p m)

module _ (blends : Blends) (fades : Fades) where
  filled-IsPixel : (mode : ℕ) (area : Rect) (color : ℕ) (x y : ℤ) (old : Channels) → color < 2 ^ 32
      → IsPixel old → IsPixel (filled mode area color x y old)
  filled-IsPixel mode area color x y old fits h =
      by_mode (λ m. cond (is_in area x y) (blend m (of_argb color) old) old) (mode_numbered mode)
      old
      (λ m. either (is_in area x y) (blend m (of_argb color) old) old
      (blends m (of_argb color) old (of_argb-IsPixel color fits) h) h) h

  colored-IsPixel : (m : Mode) (colors : List ℕ) (k : ℕ) (old : Channels)
      → All (λ color. color < 2 ^ 32) colors → IsPixel old
      → IsPixel (option_map_or (λ color. blend m (of_argb color) old) (slice_get colors k) old)
  colored-IsPixel m [] k old fits h = h
  colored-IsPixel m (color ∷ colors) zero old fits h = blends m (of_argb color) old
      (of_argb-IsPixel color (fits 0 0 (omega arith))) h
  colored-IsPixel m (color ∷ colors) (suc k) old fits h = colored-IsPixel m colors k old
      (λ i d l. fits (suc i) d (omega arith)) h

  image_color-IsPixel : (m : Mode) (left top : ℤ) (w h : ℕ) (colors : List ℕ) (x y : ℤ)
      (old : Channels) → All (λ color. color < 2 ^ 32) colors → IsPixel old
      → IsPixel (option_map_or (λ color. blend m (of_argb color) old)
      (image_color left top w h colors x y) old)
  image_color-IsPixel m left top w h colors x y old fits k =
      pick (is_in (rect_at left top w h) x y)
    where
      pick : (t : Bool) → IsPixel (option_map_or (λ color. blend m (of_argb color) old)
          (cond t (slice_get colors (image_index left top w x y)) None) old)
      pick true = colored-IsPixel m colors (image_index left top w x y) old fits k
      pick false = k

  imaged-IsPixel : (mode : ℕ) (left top : ℤ) (w h : ℕ) (colors : List ℕ) (x y : ℤ) (old : Channels)
      → All (λ color. color < 2 ^ 32) colors → IsPixel old
      → IsPixel (imaged mode left top w h colors x y old)
  imaged-IsPixel mode left top w h colors x y old fits k =
      by_mode (λ m. option_map_or (λ color. blend m (of_argb color) old)
      (image_color left top w h colors x y) old) (mode_numbered mode) old
      (λ m. image_color-IsPixel m left top w h colors x y old fits k) k

  dabs-IsPixel : (shape : Shape) (m : Mode) (source : Channels) (dabs : List PlacedDab) (x y : ℤ)
      (old : Channels)
      → IsPixel source → All (λ (dab : PlacedDab). dab.opacity < 2 ^ 8) dabs → IsPixel old
      → IsPixel (dabs_blended shape m source dabs x y old)
  dabs-IsPixel shape m source [] x y old is fits h = h
  dabs-IsPixel shape m source (dab ∷ dabs) x y old is fits h =
      let faded = fades source (from8 dab.opacity) is (byte_within dab.opacity
      (fits 0 dab (omega arith))) in
      let blended = blend m (fade source (from8 dab.opacity)) old in
      dabs-IsPixel shape m source dabs x y (dab_blended shape m source dab x y old) is
      (λ k d l. fits (suc k) d (omega arith))
      (either (dab_covers shape dab x y) blended old (blends m (fade source (from8 dab.opacity)) old
      faded h) h)

  stroked-IsPixel : (mode : ℕ) (shape : Shape) (r g b : ℕ) (left top : ℤ) (dabs : List Dab)
      (x y : ℤ) (old : Channels) → FitsStroke r g b dabs → IsPixel old
      → IsPixel (stroked mode (premultiplied r g b 255) shape (placed_dabs left top dabs) x y old)
  stroked-IsPixel mode shape r g b left top dabs x y old fits h =
      let source = premultiplied r g b 255 in
      by_mode (λ m. dabs_blended shape m source (placed_dabs left top dabs) x y old)
      (mode_numbered mode) old
      (λ m. dabs-IsPixel shape m source (placed_dabs left top dabs) x y old
      (premultiplied-IsPixel r g b 255 fits.red fits.green fits.blue (omega arith))
      (All-map (λ (dab : PlacedDab). dab.opacity < 2 ^ 8) _ (enumerate_from 0 dabs) entries) h) h
    where
      entries : All (λ (entry : ℕ × Dab). entry.1.opacity < 2 ^ 8) (enumerate_from 0 dabs)
      entries k d l =
          let within : k < length dabs = omega (arith, length-enumerate_from 0 dabs) in
          subst (λ (entry : ℕ × Dab). entry.1.opacity < 2 ^ 8)
          (sym (get_or-enumerate_from 0 dabs k d within)) (fits.opacity k d.1 within)

  moved-IsPixel : (width height sx sy w h : ℕ) (tx ty : ℤ) (old : ℤ → ℤ → Channels) (x y : ℤ)
      → IsPixel (old x y)
      → ((v z : ℤ) → is_in (canvas_rect width height) v z ≡ true → IsPixel (old v z))
      → IsPixel (moved width height sx sy w h tx ty old x y)
  moved-IsPixel width height sx sy w h tx ty old x y here all =
      let from = rect_at (pos sx) (pos sy) w h in
      let canvas = canvas_rect width height in
      let source = clipped from canvas in
      let back_x = x -ℤ (tx -ℤ pos sx) in
      let back_y = y -ℤ (ty -ℤ pos sy) in
      let base = cond (is_in source x y) clear (old x y) in
      let is_base = either (is_in source x y) clear (old x y) clear-IsPixel here in
      pick (is_in source back_x back_y) (blend Normal (old back_x back_y) base) base is_base
      (λ inside.
      let back = clipped_in from canvas back_x back_y (is_in-true source back_x back_y inside) in
      blends Normal (old back_x back_y) base (all back_x back_y
      (is_in_by canvas back_x back_y back.1)) is_base)
    where
      pick : (test : Bool) (p q : Channels) → IsPixel q → (test ≡ true → IsPixel p)
          → IsPixel (cond test p q)
      pick true p q is h = h refl
      pick false p q is h = is

  on_canvas : (width height : ℕ) (x y : ℤ) (p old : Channels) → IsPixel p → IsPixel old
      → IsPixel (cond (is_in (canvas_rect width height) x y) p old)
  on_canvas width height x y p old h k = either (is_in (canvas_rect width height) x y) p old h k

  -- a pixel that stays
  stays : (width height : ℕ) (x y : ℤ) (old : Channels) → IsPixel old
      → IsPixel (cond (is_in (canvas_rect width height) x y) old old)
  stays width height x y old h = on_canvas width height x y old old h h

  pub drawn-IsPixel : (width height : ℕ) (d : Draw) (old : ℤ → ℤ → Channels) (x y : ℤ)
      → FitsColors d → IsPixel (old x y)
      → ((v z : ℤ) → IsTrue (is_in (canvas_rect width height) v z) → IsPixel (old v z))
      → IsPixel (drawn width height d old x y)
  drawn-IsPixel width height (op.PutImage layer mode left top w h colors) old x y fits here all =
      on_canvas width height x y _ (old x y) (imaged-IsPixel mode (pos left) (pos top) w h colors x
      y (old x y) fits here) here
  drawn-IsPixel width height (op.FillRect layer mode left top w h color) old x y fits here all =
      on_canvas width height x y _ (old x y) (filled-IsPixel mode (rect_at (pos left) (pos top) w h)
      color x y (old x y) fits here) here
  drawn-IsPixel width height (op.PutTile layer col row repeat content) old x y fits here all =
      on_canvas width height x y _ (old x y) (tile-IsPixel width height col row repeat content x y
      (old x y) here) here
  drawn-IsPixel width height (op.DabsRound layer left top r g b mode dabs) old x y fits here all =
      on_canvas width height x y _ (old x y) (stroked-IsPixel mode Round r g b left top dabs x y
      (old x y) fits here) here
  drawn-IsPixel width height (op.DabsSquare layer left top r g b mode dabs) old x y fits here all =
      on_canvas width height x y _ (old x y) (stroked-IsPixel mode Square r g b left top dabs x y
      (old x y) fits here) here
  drawn-IsPixel width height (op.MoveRect layer sx sy w h tx ty) old x y fits here all =
      on_canvas width height x y _ (old x y) (moved-IsPixel width height sx sy w h tx ty old x y
      here all) here
  drawn-IsPixel width height _ old x y fits here all = stays width height x y (old x y) here
