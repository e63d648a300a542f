-- The foot of a command: where it may change a layer, and where it reads it.
use Rattle.std.specs.Prelude.{ℕ, ◌+◌, ◌-◌, ◌*◌, ◌/◌, ◌==◌, ℤ, pos, unsigned_abs}
use Rattle.std.specs.Prelude.{Bool, true, not, ◌&&◌, ◌||◌, int_lt, if◌then◌else◌}
use Rattle.std.specs.Prelude.{List, [], ◌∷◌, map, fold, Option, Some, None}
use Rattle.std.specs.List.{sum_by, count_by, range_with_len}
use Rattle.dp_msg_draw.specs.declared.draw.Draw.{Draw}
use Rattle.dp_msg_draw.specs.declared.draw.Draw.TheVariants.{CanvasResize, FillRect, PutImage}
use Rattle.dp_msg_draw.specs.declared.draw.Draw.TheVariants.{PutTile, DabsRound, DabsSquare}
use Rattle.dp_msg_draw.specs.declared.draw.Draw.TheVariants.{MoveRect}
use Rattle.dp_pixels.specs.declared.feet.Footprint.{Footprint}
use Rattle.dp_pixels.specs.declared.feet.Footprint.TheVariants.{Area, Two, All}
use Rattle.dp_pixels.specs.declared.rect.Rect.{Rect}
use Rattle.std.specs.Int.{int_max, int_min}
use Rattle.dp_pixels.specs.Rectangles.{is_in, rect_at, share_place, joined, canvas_rect}
use Rattle.dp_pixels.specs.declared.dabs.PlacedDab.{PlacedDab}
use Rattle.dp_pixels.specs.Dabs.{placed_dabs, dab_rect}

-- a number, moved into the range from 0 to 4096
abbrev pub on_side : ℤ → ℤ
on_side z = int_max (pos 0) (int_min z (pos 4096))

-- the rectangle with each of its numbers from 0 to 4096: its places on the greatest canvas
abbrev pub on_greatest : Rect → Rect
on_greatest r =
    record { x0 = on_side r.x0; y0 = on_side r.y0; x1 = on_side r.x1; y1 = on_side r.y1 }

-- the places of the greatest canvas
abbrev pub greatest_canvas : Rect
greatest_canvas = canvas_rect 4096 4096

-- the least rectangle around all dabs; without a dab it has no place
abbrev pub around : List PlacedDab → Rect
around [] = rect_at (pos 0) (pos 0) 0 0
around (dab ∷ dabs) = fold joined (dab_rect dab) (map dab_rect dabs)

-- where the dabs of a message may change the layer
abbrev pub dabs_foot : ℕ → List PlacedDab → Footprint
dabs_foot layer dabs = Area layer (on_greatest (around dabs))

-- the foot of a command
abbrev pub foot : Draw → Footprint
foot (FillRect layer mode x y w h color) = Area layer (on_greatest (rect_at (pos x) (pos y) w h))
foot (PutImage layer mode x y w h colors) = Area layer (on_greatest (rect_at (pos x) (pos y) w h))
foot (DabsRound layer x y r g b mode dabs) = dabs_foot layer (placed_dabs x y dabs)
foot (DabsSquare layer x y r g b mode dabs) = dabs_foot layer (placed_dabs x y dabs)
foot (PutTile layer col row repeat content) =
    Area layer
    (if repeat == 0
    then on_greatest (rect_at (pos (col * 64)) (pos (row * 64)) 64 64)
    else greatest_canvas)
foot (MoveRect layer sx sy w h tx ty) =
    Two layer
    (on_greatest (rect_at (pos sx) (pos sy) w h))
    (on_greatest (rect_at tx ty w h))
foot _ = All

-- a place of the layer is in the foot
abbrev pub is_in_foot : Footprint → ℤ → ℤ → Bool
is_in_foot (Area layer rect) x y = is_in rect x y
is_in_foot (Two layer from to) x y = is_in from x y || is_in to x y
is_in_foot All x y = true

-- a layer has a rectangle that shares a place with the foot
abbrev pub meets_area : Footprint → ℕ → Rect → Bool
meets_area (Area layer rect) other area = layer == other && share_place rect area
meets_area (Two layer from to) other area = layer == other
    && (share_place from area || share_place to area)
meets_area All other area = true

-- Two feet meet if one is everything, or if they are of one layer and share a place. That is: a
-- rectangle of the one shares it with a rectangle of the other.
abbrev pub feet_meet : Footprint → Footprint → Bool
feet_meet a (Area layer rect) = meets_area a layer rect
feet_meet a (Two layer from to) = meets_area a layer from || meets_area a layer to
feet_meet a All = true

-- the feet of two commands don't meet
abbrev pub are_apart : Draw → Draw → Bool
are_apart a b = not (feet_meet (foot a) (foot b))

-- how many of the stretches of 64 numbers, counted from 0, have a number from a up to b, without b
abbrev pub stretches : ℤ → ℤ → ℕ
stretches a b = if int_lt a b then (unsigned_abs b + 63) / 64 - unsigned_abs a / 64 else 0

-- how many squares of 64 by 64 places of the greatest canvas share a place with a rectangle of it
abbrev pub squares_of : Rect → ℕ
squares_of r = stretches r.x0 r.x1 * stretches r.y0 r.y1

-- how many squares the rectangles of a foot share a place with, each rectangle by itself
abbrev pub squares_of_foot : Footprint → ℕ
squares_of_foot (Area layer rect) = squares_of rect
squares_of_foot (Two layer from to) = squares_of from + squares_of to
squares_of_foot All = 0

-- how many squares a command reaches: those of its foot; CanvasResize reaches all squares of 256
-- layers, and no other command whose foot is everything reaches any
abbrev pub reach : Draw → ℕ
reach (CanvasResize top right bottom left) = 1048576
reach op = squares_of_foot (foot op)

-- the layer that a foot names
abbrev pub foot_layer : Footprint → Option ℕ
foot_layer (Area layer rect) = Some layer
foot_layer (Two layer from to) = Some layer
foot_layer All = None

-- how many squares share a place with a rectangle, counted one by one, row by row
abbrev pub squares_shared : Rect → ℕ
squares_shared r =
    sum_by (λ row.
    count_by (λ col. share_place (rect_at (pos (col * 64)) (pos (row * 64)) 64 64) r)
    (range_with_len 0 64))
    (range_with_len 0 64)
