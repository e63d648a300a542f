-- The table of drawing messages: the kind of each, its payload, and which of them have a spelling.
use Rattle.std.specs.Prelude.{◌≡◌, ℕ, ◌*◌, ◌^◌, ◌<◌, ◌≤◌, List, ◌++◌, length, All}
use Rattle.std.specs.Int.{w8, w32}
use Rattle.std.specs.Int.RustNames.{FitsSigned}
use Rattle.std.specs.List.{flat_map}
use Rattle.dp_msg_draw.specs.declared.lists.Dab.{Dab}
use Rattle.dp_msg_draw.specs.declared.lists.TilePixel.{TilePixel}
use Rattle.dp_msg_draw.specs.declared.draw.TileContent.{TileContent}
use Rattle.dp_msg_draw.specs.declared.draw.TileContent.TheVariants.{Solid, Pixels}
use Rattle.dp_msg_draw.specs.declared.draw.Draw.{Draw}
use Rattle.dp_msg_draw.specs.declared.draw.Draw.TheVariants.{
  CanvasResize,
  LayerCreate,
  LayerAttr,
  LayerTitle,
  LayerMove,
  LayerDelete,
  PutImage,
  FillRect,
  PutTile,
  Background,
  DabsRound,
  DabsSquare,
  MoveRect,
}
use Rattle.dp_fields.specs.Fields.{one_byte, two_bytes, four_bytes, signed_byte, four_signed}
use Rattle.dp_fields.specs.Fields.{flag_byte}
use Rattle.dp_msg_draw.specs.Limits.{IsTitle, IsListedMode}

-- the number of a message's kind
abbrev pub draw_kind : Draw → ℕ
draw_kind (CanvasResize top right bottom left) = 129
draw_kind (LayerCreate id parent group title) = 130
draw_kind (LayerAttr id opacity mode hidden) = 131
draw_kind (LayerTitle id title) = 132
draw_kind (LayerMove id parent above) = 133
draw_kind (LayerDelete id) = 134
draw_kind (PutImage layer mode x y w h colors) = 136
draw_kind (FillRect layer mode x y w h color) = 137
draw_kind (PutTile layer col row repeat content) = 146
draw_kind (Background color) = 147
draw_kind (DabsRound layer x y r g b mode dabs) = 149
draw_kind (DabsSquare layer x y r g b mode dabs) = 150
draw_kind (MoveRect layer sx sy w h tx ty) = 152

-- a dab: its difference of place, its size and its opacity
abbrev pub dab_bytes : Dab → List ℕ
dab_bytes d = signed_byte d.dx ++ signed_byte d.dy ++ one_byte d.size ++ one_byte d.opacity

-- a pixel of a tile: its channels and its alpha
abbrev pub pixel_bytes : TilePixel → List ℕ
pixel_bytes p = two_bytes p.r ++ two_bytes p.g ++ two_bytes p.b ++ two_bytes p.a

-- a form, and then one pixel for all of a tile, or each of its pixels
abbrev pub content_bytes : TileContent → List ℕ
content_bytes (Solid p) = one_byte 0 ++ pixel_bytes p
content_bytes (Pixels ps) = one_byte 1 ++ flat_map pixel_bytes ps

-- the bytes of a message's fields, whether they meet their conditions or not
abbrev pub draw_payload : Draw → List ℕ
draw_payload (CanvasResize top right bottom left) =
    four_signed top ++ four_signed right ++ four_signed bottom ++ four_signed left
draw_payload (LayerCreate id parent group title) =
    two_bytes id ++ two_bytes parent ++ flag_byte group ++ title
draw_payload (LayerAttr id opacity mode hidden) =
    two_bytes id ++ one_byte opacity ++ one_byte mode ++ flag_byte hidden
draw_payload (LayerTitle id title) = two_bytes id ++ title
draw_payload (LayerMove id parent above) = two_bytes id ++ two_bytes parent ++ two_bytes above
draw_payload (LayerDelete id) = two_bytes id
draw_payload (PutImage layer mode x y w h colors) =
    two_bytes layer ++ one_byte mode ++ four_bytes x ++ four_bytes y ++ four_bytes w ++ four_bytes h
    ++ flat_map four_bytes colors
draw_payload (FillRect layer mode x y w h color) =
    two_bytes layer ++ one_byte mode ++ four_bytes x ++ four_bytes y ++ four_bytes w ++ four_bytes h
    ++ four_bytes color
draw_payload (PutTile layer col row repeat content) =
    two_bytes layer ++ two_bytes col ++ two_bytes row ++ two_bytes repeat ++ content_bytes content
draw_payload (Background color) = four_bytes color
draw_payload (DabsRound layer x y r g b mode dabs) =
    two_bytes layer ++ four_signed x ++ four_signed y ++ one_byte r ++ one_byte g ++ one_byte b
    ++ one_byte mode ++ flat_map dab_bytes dabs
draw_payload (DabsSquare layer x y r g b mode dabs) =
    two_bytes layer ++ four_signed x ++ four_signed y ++ one_byte r ++ one_byte g ++ one_byte b
    ++ one_byte mode ++ flat_map dab_bytes dabs
draw_payload (MoveRect layer sx sy w h tx ty) =
    two_bytes layer ++ four_bytes sx ++ four_bytes sy ++ four_bytes w ++ four_bytes h
    ++ four_signed tx ++ four_signed ty

-- w times h colours, row by row, of at least one row and one column, as many as a payload holds
abbrev pub IsImage : ℕ → ℕ → List ℕ → Type 0
IsImage w h colors =
    All (λ color. color < 2 ^ 32) colors × (1 ≤ w) × (1 ≤ h) × (length colors ≡ w * h)
    × (length colors ≤ 16379)

-- no channel is above alpha, and alpha is at most one
abbrev pub IsPixel : TilePixel → Type 0
IsPixel p = (p.r ≤ p.a) × (p.g ≤ p.a) × (p.b ≤ p.a) × (p.a ≤ 32768)

-- the pixels are all equal
abbrev pub AreAllEqual : List TilePixel → Type 0
AreAllEqual pixels = (p : TilePixel) × All (λ q. q ≡ p) pixels

-- the 4096 pixels of a tile, not all equal
abbrev pub IsTile : List TilePixel → Type 0
IsTile pixels = All IsPixel pixels × (length pixels ≡ 4096) × ¬ AreAllEqual pixels

-- one pixel for all of a tile, or each of its pixels
abbrev pub IsContent : TileContent → Type 0
IsContent (Solid p) = IsPixel p
IsContent (Pixels ps) = IsTile ps

-- a size that isn't 0, and numbers within their widths
abbrev pub IsDab : Dab → Type 0
IsDab d =
    FitsSigned w8 d.dx × FitsSigned w8 d.dy × (1 ≤ d.size) × (d.size < 2 ^ 8) × (d.opacity < 2 ^ 8)

-- one or more dabs, as many as a payload holds
abbrev pub AreDabs : List Dab → Type 0
AreDabs dabs = All IsDab dabs × (1 ≤ length dabs) × (length dabs ≤ 16380)

-- Each number lies within its width and each condition is met, so that the message has a spelling.
abbrev pub DrawHasSpelling : Draw → Type 0
DrawHasSpelling (CanvasResize top right bottom left) =
    FitsSigned w32 top × FitsSigned w32 right × FitsSigned w32 bottom × FitsSigned w32 left
DrawHasSpelling (LayerCreate id parent group title) =
    (id < 2 ^ 16) × (parent < 2 ^ 16) × IsTitle title
DrawHasSpelling (LayerAttr id opacity mode hidden) =
    (id < 2 ^ 16) × (opacity < 2 ^ 8) × IsListedMode mode
DrawHasSpelling (LayerTitle id title) = (id < 2 ^ 16) × IsTitle title
DrawHasSpelling (LayerMove id parent above) = (id < 2 ^ 16) × (parent < 2 ^ 16) × (above < 2 ^ 16)
DrawHasSpelling (LayerDelete id) = id < 2 ^ 16
DrawHasSpelling (PutImage layer mode x y w h colors) =
    (layer < 2 ^ 16) × IsListedMode mode × (x < 2 ^ 32) × (y < 2 ^ 32) × (w < 2 ^ 32)
    × (h < 2 ^ 32) × IsImage w h colors
DrawHasSpelling (FillRect layer mode x y w h color) =
    (layer < 2 ^ 16) × IsListedMode mode × (x < 2 ^ 32) × (y < 2 ^ 32) × (w < 2 ^ 32)
    × (h < 2 ^ 32) × (color < 2 ^ 32)
DrawHasSpelling (PutTile layer col row repeat content) =
    (layer < 2 ^ 16) × (col < 2 ^ 16) × (row < 2 ^ 16) × (repeat < 2 ^ 16) × IsContent content
DrawHasSpelling (Background color) = color < 2 ^ 32
DrawHasSpelling (DabsRound layer x y r g b mode dabs) =
    (layer < 2 ^ 16) × FitsSigned w32 x × FitsSigned w32 y × (r < 2 ^ 8) × (g < 2 ^ 8)
    × (b < 2 ^ 8) × IsListedMode mode × AreDabs dabs
DrawHasSpelling (DabsSquare layer x y r g b mode dabs) =
    (layer < 2 ^ 16) × FitsSigned w32 x × FitsSigned w32 y × (r < 2 ^ 8) × (g < 2 ^ 8)
    × (b < 2 ^ 8) × IsListedMode mode × AreDabs dabs
DrawHasSpelling (MoveRect layer sx sy w h tx ty) =
    (layer < 2 ^ 16) × (sx < 2 ^ 32) × (sy < 2 ^ 32) × (w < 2 ^ 32) × (h < 2 ^ 32)
    × FitsSigned w32 tx × FitsSigned w32 ty

-- the payload of this kind spells the message
pub record SpellsDraw (number : ℕ) (bytes : List ℕ) (m : Draw) : Type 0 where
  pub kind : number ≡ draw_kind m
  pub payload : bytes ≡ draw_payload m
  pub spelled : DrawHasSpelling m
