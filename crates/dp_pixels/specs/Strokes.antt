-- Messages of dabs, dab by dab.
use Rattle.std.specs.Prelude.{List, [], Option, None, option_map}
use Rattle.dp_blend.specs.Color.{premultiplied}
use Rattle.dp_blend.specs.Blending.{mode_numbered}
use Rattle.dp_msg_draw.specs.declared.draw.Draw.{Draw}
use Rattle.dp_msg_draw.specs.declared.draw.Draw.TheVariants.{DabsRound, DabsSquare}
use Rattle.dp_pixels.specs.declared.dabs.PlacedDab.{PlacedDab}
use Rattle.dp_pixels.specs.declared.dabs.Shape.TheVariants.{Round, Square}
use Rattle.dp_pixels.specs.declared.stroke.Brush.{Brush}
use Rattle.dp_pixels.specs.Dabs.{placed_dabs}

-- the dabs of a command, each where it stands
abbrev pub dabs_of_command : Draw → List PlacedDab
dabs_of_command (DabsRound layer x y r g b mode dabs) = placed_dabs x y dabs
dabs_of_command (DabsSquare layer x y r g b mode dabs) = placed_dabs x y dabs
dabs_of_command _ = []

-- how each dab of a command is drawn, if a mode has the command's number
abbrev pub brush_of : Draw → Option Brush
brush_of (DabsRound layer x y r g b mode dabs) =
    option_map (λ m. record { shape = Round; mode = m; color = premultiplied r g b 255 })
    (mode_numbered mode)
brush_of (DabsSquare layer x y r g b mode dabs) =
    option_map (λ m. record { shape = Square; mode = m; color = premultiplied r g b 255 })
    (mode_numbered mode)
brush_of _ = None
