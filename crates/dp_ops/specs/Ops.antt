-- Operations on tiles, which wait until these are painted or read.
use Rattle.std.specs.Prelude.{◌≡◌, ◌==◌, ℕ, ◌+◌, ◌-◌, ◌*◌, ◌/◌, ◌%◌, ◌<◌, ◌≤◌, Bool}
use Rattle.std.specs.Prelude.{◌&&◌, nat_le, nat_lt, if◌then◌else◌, ℤ, pos, ⊤}
use Rattle.std.specs.Prelude.{◌-ℤ◌, ◌≤ℤ◌, ◌<ℤ◌, List, length, fold, slice_get}
use Rattle.std.specs.Int.{int_max, int_min}
use Rattle.std.specs.Option.{option_map_or}
use Rattle.dp_blend.specs.Color.{Channels, of_argb}
use Rattle.dp_blend.specs.Blending.{blend}
use Rattle.dp_blend.specs.declared.modes.Mode.{Mode}
use Rattle.dp_blend.specs.declared.modes.Mode.TheVariants.{Erase, Normal, Multiply, Add, Recolor}
use Rattle.dp_blend.specs.declared.modes.Mode.TheVariants.{Replace}
use Rattle.dp_blend.specs.Canvas.{canvas_of, pixel_at}
use Rattle.dp_blend.proofs.Canvas.{length-canvas_of}
use Rattle.dp_msg_draw.specs.declared.draw.Draw.{Draw}
use Rattle.dp_msg_draw.specs.declared.draw.Draw.TheVariants.{FillRect, DabsRound, DabsSquare}
use Rattle.dp_pixels.specs.declared.dabs.PlacedDab.{PlacedDab}
use Rattle.dp_pixels.specs.declared.dabs.Shape.{Shape}
use Rattle.dp_pixels.specs.declared.dabs.Shape.TheVariants.{Round, Square}
use Rattle.dp_pixels.specs.Commands.{dab_blended, pixel_drawn}
use Rattle.dp_ops.specs.declared.op.TileFill.{TileFill}
use Rattle.dp_ops.specs.declared.op.TileDab.{TileDab}
use Rattle.dp_ops.specs.declared.op.TileOp.{TileOp}
use Rattle.dp_ops.specs.declared.op.TileOp.TheVariants.{Fill, Dab, Command}

-- ---- one operation

-- a column and a row of a tile are among those that are filled
abbrev pub is_in_fill : TileFill → ℕ → ℕ → Bool
is_in_fill f x y = nat_le f.left x && nat_lt x f.right && nat_le f.top y && nat_lt y f.bottom

-- a dab, where it stands if the tile's corner is the place (0, 0)
abbrev pub dab_in_tile : TileDab → PlacedDab
dab_in_tile d =
    record { at = record { x = d.x; y = d.y }; size = d.size; opacity = d.opacity }

-- if operations stand: the commands that they number, on a canvas of these sides, and the column
-- and the row of the tile
pub record OnTile : Type 0 where
  pub width : ℕ
  pub height : ℕ
  pub commands : List Draw
  pub col : ℕ
  pub row : ℕ

-- such a place
abbrev pub on_tile : ℕ → ℕ → List Draw → ℕ → ℕ → OnTile
on_tile width height commands col row =
    record { width = width; height = height; commands = commands; col = col; row = row }

-- the pixel at a column and a row of a tile after a fill, of the old one there
abbrev pub fill_at : TileFill → ℕ → ℕ → Channels → Channels
fill_at f x y old = if is_in_fill f x y then blend f.mode (of_argb f.color) old else old

-- and after a dab
abbrev pub dab_at : TileDab → ℕ → ℕ → Channels → Channels
dab_at d x y old =
    dab_blended d.shape d.mode (of_argb d.color) (dab_in_tile d) (pos x) (pos y) old

-- and after the command of a number
abbrev pub command_at : OnTile → ℕ → ℕ → ℕ → Channels → Channels
command_at t number x y old =
    option_map_or (λ command.
    pixel_drawn t.width t.height command (pos (t.col * 64 + x)) (pos (t.row * 64 + y)) old)
    (slice_get t.commands number) old

-- and after an operation
abbrev pub op_at : OnTile → TileOp → ℕ → ℕ → Channels → Channels
op_at t (Fill f) = fill_at f
op_at t (Dab d) = dab_at d
op_at t (Command number) = command_at t number

-- ---- operations one after the other

-- the pixel at a column and a row of a tile after operations
abbrev pub ops_at : OnTile → List TileOp → ℕ → ℕ → Channels → Channels
ops_at t ops x y old = fold (λ under op. op_at t op x y under) old ops

-- the pixels of a tile after operations
unfoldable pub tile_after : OnTile → List TileOp → List Channels → List Channels
tile_after t ops pixels = canvas_of 64 64 (λ x y. ops_at t ops x y (pixel_at 64 pixels x y))

-- the law of what waits: on the canvas, the new operations draw a command after the old ones
abbrev pub Draws : OnTile → Draw → List TileOp → List TileOp → Type 0
Draws t command old new =
    (i j : ℕ) (p : Channels) → i < 64 → j < 64
    → t.col * 64 + i < t.width → t.row * 64 + j < t.height
    → ops_at t new i j p
    ≡ pixel_drawn t.width t.height command (pos (t.col * 64 + i)) (pos (t.row * 64 + j))
    (ops_at t old i j p)

-- ---- packed operations

-- a dab's place and colour, or a fill's sides, have room in a packed operation
abbrev pub IsPackable : TileOp → Type 0
IsPackable (Fill f) = (f.left ≤ 64) × (f.right ≤ 64) × (f.top ≤ 64) × (f.bottom ≤ 64)
IsPackable (Dab d) = ((pos 0 -ℤ pos 256) ≤ℤ d.x) × (d.x <ℤ pos 256)
    × ((pos 0 -ℤ pos 256) ≤ℤ d.y) × (d.y <ℤ pos 256) × (d.color / 16777216 ≡ 255)
IsPackable (Command number) = ⊤

-- the number of a mode
abbrev pub code_of : Mode → ℕ
code_of Erase = 0
code_of Normal = 1
code_of Multiply = 2
code_of Add = 3
code_of Recolor = 4
code_of Replace = 5

-- the mode of a number
abbrev pub mode_coded : ℕ → Mode
mode_coded code =
    if code == 0 then Erase else if code == 1 then Normal else if code == 2 then Multiply
    else if code == 3 then Add else if code == 4 then Recolor else Replace

-- the number of a shape
abbrev pub shape_code : Shape → ℕ
shape_code Round = 0
shape_code Square = 1

-- the shape of a number
abbrev pub shape_coded : ℕ → Shape
shape_coded code = if code == 0 then Round else Square

-- the fill of two numbers
abbrev pub packed_fill : ℕ → ℕ → TileOp
packed_fill low high =
    Fill (record {
      color = low;
      left = high % 128;
      right = high / 128 % 128;
      top = high / 16384 % 128;
      bottom = high / 2097152 % 128;
      mode = mode_coded (high / 268435456);
    })

-- the dab of two numbers
abbrev pub packed_dab : ℕ → ℕ → TileOp
packed_dab low high =
    Dab (record {
      x = pos (high % 512) -ℤ pos 256;
      y = pos (high / 512 % 512) -ℤ pos 256;
      size = high / 262144 % 256;
      opacity = low / 16777216;
      shape = shape_coded (high / 67108864 % 2);
      mode = mode_coded (high / 134217728);
      color = low % 16777216 + 4278190080;
    })

-- the operation of two numbers
abbrev pub packed_op : ℕ → ℕ → TileOp
packed_op low high =
    if nat_lt high 2147483648 then packed_fill low high
    else if nat_lt high 3221225472 then packed_dab low (high - 2147483648)
    else Command low

-- ---- in the words of the code

-- where a place stands on one axis, counted from the first place of a column or row of tiles, from
-- -128 to 191
abbrev pub tile_place : ℤ → ℕ → ℤ
tile_place at tile = int_max (pos 0 -ℤ pos 128) (int_min (at -ℤ pos (tile * 64)) (pos 191))

-- a fill, or a message of dabs
abbrev pub MayWait : Draw → Type 0
MayWait (FillRect layer mode x y w h color) = ⊤
MayWait (DabsRound layer x y r g b mode dabs) = ⊤
MayWait (DabsSquare layer x y r g b mode dabs) = ⊤
MayWait _ = ⊥

-- a tile has 4096 pixels after operations
pub length-tile_after : (t : OnTile) (ops : List TileOp) (pixels : List Channels)
    → length (tile_after t ops pixels) ≡ 4096
unfolding tile_after
length-tile_after t ops pixels =
    length-canvas_of 64 64 (λ x y. ops_at t ops x y (pixel_at 64 pixels x y))
