-- Messages of dabs, dab by dab.
use Rattle.std.proofs.Common.{◌≡◌, List, Option, Some, None, refl, ap, sym}
use Rattle.std.specs.Prelude.{ℤ, option_map}
use Rattle.std.specs.Option.{option_map_or}
use Rattle.std.proofs.lemmas.Option.{none-some, same_Some}
use Rattle.dp_blend.specs.Color.{Channels, premultiplied}
use Rattle.dp_blend.specs.Blending.{mode_numbered}
use Rattle.dp_blend.specs.declared.modes.Mode.{Mode}
use Rattle.dp_msg_draw.specs.declared.draw.Draw.{Draw}
use Rattle.dp_msg_draw.specs.declared.draw.Draw.TheVariants.{DabsRound, DabsSquare}
use Rattle.dp_pixels.specs.declared.dabs.PlacedDab.{PlacedDab}
use Rattle.dp_pixels.specs.declared.dabs.Shape.{Shape}
use Rattle.dp_pixels.specs.declared.dabs.Shape.TheVariants.{Round, Square}
use Rattle.dp_pixels.specs.declared.stroke.Brush.{Brush}
use Rattle.dp_pixels.specs.Dabs.{placed_dabs}
use Rattle.dp_pixels.specs.Commands.{IsDabs, dabs_blended, pixel_after}
use Rattle.dp_pixels.specs.Strokes.{brush_of, dabs_of_command}

module _ (shape : Shape) (color : Channels) (dabs : List PlacedDab) (x y : ℤ) (old : Channels) where
  -- the brush of a mode
  abbrev brush : Mode → Brush
  brush mode = record { shape = shape; mode = mode; color = color }

  by_brush : (mode : Option Mode) (b : Brush) → option_map brush mode ≡ Some b
      → option_map_or (λ m. dabs_blended shape m color dabs x y old) mode old
      ≡ dabs_blended b.shape b.mode b.color dabs x y old
  by_brush None b is = absurd (none-some b is)
  by_brush (Some m) b is =
      ap (λ (c : Brush). dabs_blended c.shape c.mode c.color dabs x y old)
      (same_Some (brush m) b is)

  by_none : (mode : Option Mode) → option_map brush mode ≡ None
      → option_map_or (λ m. dabs_blended shape m color dabs x y old) mode old ≡ old
  by_none None is = refl
  by_none (Some m) is = absurd (none-some (brush m) (sym is))

-- a message is its dabs, one after the other
pub message_by_dabs : (op : Draw) (brush : Brush) (x y : ℤ) (old : Channels)
    → brush_of op ≡ Some brush
    → pixel_after op x y old
    ≡ dabs_blended brush.shape brush.mode brush.color (dabs_of_command op) x y old
message_by_dabs (DabsRound layer left top r g b mode dabs) brush x y old is =
    by_brush Round (premultiplied r g b 255) (placed_dabs left top dabs) x y old
    (mode_numbered mode) brush is
message_by_dabs (DabsSquare layer left top r g b mode dabs) brush x y old is =
    by_brush Square (premultiplied r g b 255) (placed_dabs left top dabs) x y old
    (mode_numbered mode) brush is
message_by_dabs _ brush x y old is = absurd (none-some brush is)

-- a message of no mode changes nothing
pub message_of_none : (op : Draw) (x y : ℤ) (old : Channels) → IsDabs op → brush_of op ≡ None
    → pixel_after op x y old ≡ old
message_of_none (DabsRound layer left top r g b mode dabs) x y old is none =
    by_none Round (premultiplied r g b 255) (placed_dabs left top dabs) x y old
    (mode_numbered mode) none
message_of_none (DabsSquare layer left top r g b mode dabs) x y old is none =
    by_none Square (premultiplied r g b 255) (placed_dabs left top dabs) x y old
    (mode_numbered mode) none
message_of_none _ x y old is none = absurd is
