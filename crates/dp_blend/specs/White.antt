-- Pixels as bytes, laid on white.
use Rattle.std.specs.Prelude.{ℕ, List, [], ◌∷◌}
use Rattle.dp_blend.specs.Color.{Channels, to8, white}
use Rattle.dp_blend.specs.Blending.{blend}
use Rattle.dp_blend.specs.declared.modes.Mode.TheVariants.{Normal}

-- the bytes of a pixel: red, green and blue
abbrev pub rgb : Channels → List ℕ
rgb p = to8 p.r ∷ to8 p.g ∷ to8 p.b ∷ []

-- the bytes of a pixel that is laid on white, which shows through as far as it isn't opaque
abbrev pub rgb_on_white : Channels → List ℕ
rgb_on_white p = rgb (blend Normal p white)
