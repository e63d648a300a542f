-- Commands that are drawn together.
use Rattle.std.specs.Prelude.{◌≡◌, ℕ, Some}
use Rattle.dp_msg_draw.specs.declared.draw.Draw.{Draw}
use Rattle.dp_paint.specs.Painting.{IsPainting}
use Rattle.dp_plain.specs.Commands.{painted_layer}

-- the command is on the pixels of the layer, and changes each from the old one at its place
pub record PaintsOn (layer : ℕ) (c : Draw) : Type 0 where
  pub named : painted_layer c ≡ Some layer
  pub alone : IsPainting c
