-- Tiles of one colour that a command fills.
use Rattle.std.proofs.Common.{◌≡◌, ℕ, ◌+◌, ◌*◌, ◌<◌, List, length, arith}
use Rattle.std.proofs.Common.{ap, sym, ◌∙◌, refl, Bool, true, false, cond, Some, None}
use Rattle.std.specs.Prelude.{Option}
use Rattle.std.specs.Prelude.{pos, ℤ}
use Rattle.std.specs.Option.{option_map_or}
use Rattle.std.proofs.lemmas.Bool.{cond-true}
use Rattle.dp_blend.specs.Color.{Channels, of_argb}
use Rattle.dp_blend.specs.Blending.{blend, mode_numbered}
use Rattle.dp_blend.specs.declared.modes.Mode.{Mode}
use Rattle.dp_blend.specs.Canvas.{pixel_at}
use Rattle.dp_msg_draw.specs.declared.draw.Draw.{Draw}
use Rattle.dp_msg_draw.specs.declared.draw.Draw.TheVariants as draws
use Rattle.dp_pixels.specs.declared.rect.Rect.{Rect}
use Rattle.dp_pixels.specs.Rectangles.{canvas_rect, is_in, rect_at}
use Rattle.dp_pixels.specs.Commands.{filled, pixel_drawn}
use Rattle.dp_tile.specs.Tiles.{tile_of}
use Rattle.dp_tile.proofs.Tiles.{length-tile_of, pixel-tile_of}
use Rattle.dp_ops.specs.Drawn.{IsTileWithin, tile_drawn}
use Rattle.dp_ops.proofs.Drawn.{is_tile_drawn}

-- a tile whose pixels all become of one colour
pub becomes : (width height : ℕ) (op : Draw) (col row : ℕ) (pixels : List Channels) (q : Channels)
    → ((i j : ℕ) → i < 64 → j < 64
    → pixel_drawn width height op (pos (col * 64 + i)) (pos (row * 64 + j)) (pixel_at 64 pixels i j)
    ≡ q)
    → tile_drawn width height op col row pixels ≡ tile_of q
becomes width height op col row pixels q each =
    sym (is_tile_drawn width height op col row pixels (tile_of q) (length-tile_of q)
    (λ i j in_x in_y. pixel-tile_of q (j * 64 + i) (omega (arith, in_x, in_y))
    ∙ sym (each i j in_x in_y)))

-- the pixel after a fill in its rectangle
within_fill : (mode color : ℕ) (area : Rect) (x y : ℤ) (p : Channels) → is_in area x y ≡ true
    → filled mode area color x y p
    ≡ option_map_or (λ m. blend m (of_argb color) p) (mode_numbered mode) p
within_fill mode color area x y p inside = rw inside refl

-- a tile of one colour that is filled, the whole of it
pub filled_tile : (width height layer mode x y w h color col row : ℕ) (p : Channels)
    → IsTileWithin width height (rect_at (pos x) (pos y) w h) col row
    → tile_drawn width height (draws.FillRect layer mode x y w h color) col row (tile_of p)
    ≡ tile_of (option_map_or (λ m. blend m (of_argb color) p) (mode_numbered mode) p)
filled_tile width height layer mode x y w h color col row p within =
    let op = draws.FillRect layer mode x y w h color in
    let area = rect_at (pos x) (pos y) w h in
    becomes width height op col row (tile_of p)
    (option_map_or (λ m. blend m (of_argb color) p) (mode_numbered mode) p)
    (λ i j in_x in_y.
    let here = within i j in_x in_y in
    let old : pixel_at 64 (tile_of p) i j ≡ p = pixel-tile_of p (j * 64 + i)
    (omega (arith, in_x, in_y)) in
    ap (pixel_drawn width height op (pos (col * 64 + i)) (pos (row * 64 + j))) old
    ∙ cond-true (is_in (canvas_rect width height) (pos (col * 64 + i)) (pos (row * 64 + j)))
    (filled mode area color (pos (col * 64 + i)) (pos (row * 64 + j)) p) p here.1
    ∙ within_fill mode color area (pos (col * 64 + i)) (pos (row * 64 + j)) p here.0)

-- what a fill makes of a tile whose pixels are all of one colour
pub fill_becomes : (width height : ℕ) (op : Draw) (layer mode x y w h color col row : ℕ)
    (p q : Channels) (pixels : List Channels)
    → op ≡ draws.FillRect layer mode x y w h color
    → IsTileWithin width height (rect_at (pos x) (pos y) w h) col row
    → q ≡ option_map_or (λ m. blend m (of_argb color) p) (mode_numbered mode) p
    → pixels ≡ tile_of p → tile_drawn width height op col row pixels ≡ tile_of q
fill_becomes width height op layer mode x y w h color col row p q pixels is within after plain =
    rw (after, plain, is) (filled_tile width height layer mode x y w h color col row p within)

-- ---- tiles that stay

-- a tile whose pixels all stay
pub keeps : (width height : ℕ) (op : Draw) (col row : ℕ) (pixels : List Channels)
    → length pixels ≡ 4096
    → ((i j : ℕ) → i < 64 → j < 64
    → pixel_drawn width height op (pos (col * 64 + i)) (pos (row * 64 + j)) (pixel_at 64 pixels i j)
    ≡ pixel_at 64 pixels i j)
    → tile_drawn width height op col row pixels ≡ pixels
keeps width height op col row pixels count each =
    sym (is_tile_drawn width height op col row pixels pixels count
    (λ i j in_x in_y. sym (each i j in_x in_y)))

-- a tile of a colour that is kept at each place
pub keeps_tile : (width height : ℕ) (op : Draw) (col row : ℕ) (pixels : List Channels)
    (p : Channels) → length pixels ≡ 4096 → pixels ≡ tile_of p
    → ((x y : ℤ) → pixel_drawn width height op x y p ≡ p)
    → tile_drawn width height op col row pixels ≡ pixels
keeps_tile width height op col row pixels p count plain each =
    keeps width height op col row pixels count
    (λ i j in_x in_y.
    let x = pos (col * 64 + i) in
    let y = pos (row * 64 + j) in
    let old : pixel_at 64 pixels i j ≡ p = ap (λ all. pixel_at 64 all i j) plain
    ∙ pixel-tile_of p (j * 64 + i) (omega (arith, in_x, in_y)) in
    ap (pixel_drawn width height op x y) old ∙ each x y ∙ sym old)

-- what is blended in a rectangle alone
in_part : (mode : Option Mode) (inside : Bool) (blended : Mode → Channels) (p : Channels)
    → option_map_or blended mode p ≡ p
    → option_map_or (λ m. cond inside (blended m) p) mode p ≡ p
in_part None inside blended p is = refl
in_part (Some m) true blended p is = is
in_part (Some m) false blended p is = refl

pub on_part : (on : Bool) (q p : Channels) → q ≡ p → cond on q p ≡ p
on_part true q p is = is
on_part false q p is = refl

-- a fill that changes nothing of a colour
pub fill_keeps : (width height : ℕ) (op : Draw) (layer mode x y w h color : ℕ) (p : Channels)
    → op ≡ draws.FillRect layer mode x y w h color
    → option_map_or (λ m. blend m (of_argb color) p) (mode_numbered mode) p ≡ p
    → (a b : ℤ) → pixel_drawn width height op a b p ≡ p
fill_keeps width height op layer mode x y w h color p is same a b =
    ap (λ c. pixel_drawn width height c a b p) is
    ∙ on_part (is_in (canvas_rect width height) a b)
    (filled mode (rect_at (pos x) (pos y) w h) color a b p) p
    (in_part (mode_numbered mode) (is_in (rect_at (pos x) (pos y) w h) a b)
    (λ m. blend m (of_argb color) p) p same)
