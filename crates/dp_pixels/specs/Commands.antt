-- What the pixel commands make of the pixels of a layer. A place is a pair of whole numbers; what
-- stands past the canvas stays.
use Rattle.std.specs.Prelude.{ℕ, ◌+◌, ◌*◌, ℤ, pos, ◌-ℤ◌, unsigned_abs}
use Rattle.std.specs.Prelude.{Bool, true, false, ◌&&◌, nat_lt, if◌then◌else◌}
use Rattle.std.specs.Prelude.{List, Option, None, slice_get, fold, ⊤}
use Rattle.std.specs.List.{list_any}
use Rattle.std.specs.Option.{option_map_or}
use Rattle.dp_blend.specs.Color.{Channels, clear, from8, fade, of_argb, premultiplied}
use Rattle.dp_blend.specs.Blending.{blend, mode_numbered}
use Rattle.dp_blend.specs.declared.modes.Mode.{Mode}
use Rattle.dp_blend.specs.declared.modes.Mode.TheVariants.{Normal}
use Rattle.dp_msg_draw.specs.declared.draw.Draw.{Draw}
use Rattle.dp_msg_draw.specs.declared.draw.Draw.TheVariants.{FillRect, PutImage, PutTile, DabsRound}
use Rattle.dp_msg_draw.specs.declared.draw.Draw.TheVariants.{DabsSquare, MoveRect}
use Rattle.dp_pixels.specs.declared.dabs.PlacedDab.{PlacedDab}
use Rattle.dp_pixels.specs.declared.dabs.Shape.{Shape}
use Rattle.dp_pixels.specs.declared.dabs.Shape.TheVariants.{Round, Square}
use Rattle.dp_pixels.specs.declared.rect.Rect.{Rect}
use Rattle.dp_blend.specs.Canvas.{canvas_of, pixel_at}
use Rattle.dp_pixels.specs.Rectangles.{is_in, rect_at, clipped, canvas_rect}
use Rattle.dp_pixels.specs.Dabs.{placed_dabs, dab_covers}
use Rattle.dp_pixels.specs.Tiles.{tile_changed}

-- ---- at one place

-- the index of the colour of a place in an image of this corner and width
abbrev pub image_index : ℤ → ℤ → ℕ → ℤ → ℤ → ℕ
image_index left top w x y = unsigned_abs (y -ℤ top) * w + unsigned_abs (x -ℤ left)

-- the colour of an image, w wide with its corner at (left, top), at a place, if there is one
abbrev pub image_color : ℤ → ℤ → ℕ → ℕ → List ℕ → ℤ → ℤ → Option ℕ
image_color left top w h colors x y =
    if is_in (rect_at left top w h) x y
    then slice_get colors (image_index left top w x y)
    else None

-- the pixel after a dab, which blends the faded source if it covers the place
abbrev pub dab_blended : Shape → Mode → Channels → PlacedDab → ℤ → ℤ → Channels → Channels
dab_blended shape mode source dab x y old =
    if dab_covers shape dab x y then blend mode (fade source (from8 dab.opacity)) old else old

-- the pixel after the dabs, one after the other
abbrev pub dabs_blended : Shape → Mode → Channels → List PlacedDab → ℤ → ℤ → Channels → Channels
dabs_blended shape mode source dabs x y old =
    fold (λ under (dab : PlacedDab). dab_blended shape mode source dab x y under) old dabs

-- the pixel after a fill, by the number of its mode: a number of no mode changes nothing
abbrev pub filled : ℕ → Rect → ℕ → ℤ → ℤ → Channels → Channels
filled mode area color x y old =
    option_map_or (λ m. if is_in area x y then blend m (of_argb color) old else old)
    (mode_numbered mode) old

-- the pixel after an image, in the same way
abbrev pub imaged : ℕ → ℤ → ℤ → ℕ → ℕ → List ℕ → ℤ → ℤ → Channels → Channels
imaged mode left top w h colors x y old =
    option_map_or (λ m.
    option_map_or (λ color. blend m (of_argb color) old) (image_color left top w h colors x y) old)
    (mode_numbered mode) old

-- the pixel after dabs of a source, in the same way
abbrev pub stroked : ℕ → Channels → Shape → List PlacedDab → ℤ → ℤ → Channels → Channels
stroked mode source shape dabs x y old =
    option_map_or (λ m. dabs_blended shape m source dabs x y old) (mode_numbered mode) old

-- the pixel at a place after a fill, an image or dabs, of the old pixel there; all other commands
-- keep it
abbrev pub pixel_after : Draw → ℤ → ℤ → Channels → Channels
pixel_after (FillRect layer mode x y w h color) px py old =
    filled mode (rect_at (pos x) (pos y) w h) color px py old
pixel_after (PutImage layer mode x y w h colors) px py old =
    imaged mode (pos x) (pos y) w h colors px py old
pixel_after (DabsRound layer x y r g b mode dabs) px py old =
    stroked mode (premultiplied r g b 255) Round (placed_dabs x y dabs) px py old
pixel_after (DabsSquare layer x y r g b mode dabs) px py old =
    stroked mode (premultiplied r g b 255) Square (placed_dabs x y dabs) px py old
pixel_after _ px py old = old

-- a command whose pixel after it depends on the old one at its place alone, and on no canvas
abbrev pub is_stamp : Draw → Bool
is_stamp (FillRect layer mode x y w h color) = true
is_stamp (PutImage layer mode x y w h colors) = true
is_stamp (DabsRound layer x y r g b mode dabs) = true
is_stamp (DabsSquare layer x y r g b mode dabs) = true
is_stamp _ = false

-- a command of dabs
abbrev pub IsDabs : Draw → Type 0
IsDabs (DabsRound layer x y r g b mode dabs) = ⊤
IsDabs (DabsSquare layer x y r g b mode dabs) = ⊤
IsDabs _ = ⊥

-- a place is covered by the fill, by the image or by one of the dabs
abbrev pub covers : Draw → ℤ → ℤ → Bool
covers (FillRect layer mode x y w h color) px py = is_in (rect_at (pos x) (pos y) w h) px py
covers (PutImage layer mode x y w h colors) px py = is_in (rect_at (pos x) (pos y) w h) px py
covers (DabsRound layer x y r g b mode dabs) px py =
    list_any (λ dab. dab_covers Round dab px py) (placed_dabs x y dabs)
covers (DabsSquare layer x y r g b mode dabs) px py =
    list_any (λ dab. dab_covers Square dab px py) (placed_dabs x y dabs)
covers _ px py = false

-- the pixel at a place of the canvas after a command, MoveRect aside
abbrev pub pixel_on_canvas : ℕ → ℕ → Draw → ℤ → ℤ → Channels → Channels
pixel_on_canvas width height (PutTile layer col row repeat content) x y old =
    tile_changed width height col row repeat content x y old
pixel_on_canvas width height op x y old = pixel_after op x y old

-- the pixel at a place after a command, MoveRect aside, of the old pixel there
abbrev pub pixel_drawn : ℕ → ℕ → Draw → ℤ → ℤ → Channels → Channels
pixel_drawn width height op x y old =
    if is_in (canvas_rect width height) x y then pixel_on_canvas width height op x y old else old

-- ---- from the old pixels at all places

-- The pixel at a place of the canvas after MoveRect. The source, as far as it is on the canvas, is
-- clear. If the place moved back is in it, the old pixel there is blended on that.
abbrev pub moved : ℕ → ℕ → ℕ → ℕ → ℕ → ℕ → ℤ → ℤ → (ℤ → ℤ → Channels) → ℤ → ℤ → Channels
moved width height sx sy w h tx ty old x y =
    let source = clipped (rect_at (pos sx) (pos sy) w h) (canvas_rect width height) in
    let base = if is_in source x y then clear else old x y in
    let back_x = x -ℤ (tx -ℤ pos sx) in
    let back_y = y -ℤ (ty -ℤ pos sy) in
    if is_in source back_x back_y then blend Normal (old back_x back_y) base else base

-- the pixel at a place after a command, of the old pixels
abbrev pub drawn : ℕ → ℕ → Draw → (ℤ → ℤ → Channels) → ℤ → ℤ → Channels
drawn width height (MoveRect layer sx sy w h tx ty) old x y =
    if is_in (canvas_rect width height) x y
    then moved width height sx sy w h tx ty old x y
    else old x y
drawn width height op old x y = pixel_drawn width height op x y (old x y)

-- the command is a MoveRect
abbrev pub is_move : Draw → Bool
is_move (MoveRect layer sx sy w h tx ty) = true
is_move _ = false

-- the pixel at a place, clear past the canvas
abbrev pub pixel_of : ℕ → ℕ → List Channels → ℤ → ℤ → Channels
pixel_of width height pixels (pos x) (pos y) =
    if nat_lt x width && nat_lt y height then pixel_at width pixels x y else clear
pixel_of width height pixels _ _ = clear

-- the pixels of a layer after a command
abbrev pub pixels_after : ℕ → ℕ → Draw → List Channels → List Channels
pixels_after width height op pixels =
    canvas_of width height (λ x y.
    drawn width height op (pixel_of width height pixels) (pos x) (pos y))

-- the pixels of a layer after a command, MoveRect aside, each from the old pixel at its place
abbrev pub pixels_drawn : ℕ → ℕ → Draw → List Channels → List Channels
pixels_drawn width height op pixels =
    canvas_of width height (λ x y.
    pixel_drawn width height op (pos x) (pos y) (pixel_at width pixels x y))

-- the pixels of a layer after MoveRect
abbrev pub pixels_moved : ℕ → ℕ → ℕ → ℕ → ℕ → ℕ → ℤ → ℤ → List Channels → List Channels
pixels_moved width height sx sy w h tx ty pixels =
    canvas_of width height (λ x y.
    moved width height sx sy w h tx ty (pixel_of width height pixels) (pos x) (pos y))
