-- The colours of a command, as numbers of their fields.
use Rattle.std.specs.Prelude.{ℕ, ◌<◌, ◌^◌, ⊤, List}
use Rattle.std.specs.List.{All}
use Rattle.dp_msg_draw.specs.declared.draw.Draw.{Draw}
use Rattle.dp_msg_draw.specs.declared.draw.Draw.TheVariants.{FillRect, PutImage, DabsRound}
use Rattle.dp_msg_draw.specs.declared.draw.Draw.TheVariants.{DabsSquare}
use Rattle.dp_msg_draw.specs.declared.lists.Dab.{Dab}

-- red, green and blue are bytes, and so is the opacity of each dab
pub record FitsStroke (r g b : ℕ) (dabs : List Dab) : Type 0 where
  pub red : r < 2 ^ 8
  pub green : g < 2 ^ 8
  pub blue : b < 2 ^ 8
  pub opacity : All (λ (dab : Dab). dab.opacity < 2 ^ 8) dabs

-- each colour of the command fits its field, as in all commands of Rust
abbrev pub FitsColors : Draw → Type 0
FitsColors (FillRect layer mode x y w h color) = color < 2 ^ 32
FitsColors (PutImage layer mode x y w h colors) = All (λ color. color < 2 ^ 32) colors
FitsColors (DabsRound layer x y r g b mode dabs) = FitsStroke r g b dabs
FitsColors (DabsSquare layer x y r g b mode dabs) = FitsStroke r g b dabs
FitsColors _ = ⊤
