-- The text of a picture in each format, and how much of a text was written.
use Rattle.std.specs.Prelude.{◌≡◌, ℕ, List, ◌++◌, codes}
use Rattle.std.specs.Io.KnownBytes.{Appends}
use Rattle.std.specs.declared.option.Option.{Option}
use Rattle.dp_blend.specs.Color.{Channels}
use Rattle.dp_blend.specs.White.{rgb}
use Rattle.dp_plain.specs.Picture.{rgb_line}
use Rattle.dp_flat.specs.declared.text.Format.{Format}
use Rattle.dp_flat.specs.declared.text.Format.TheVariants.{P6, P3}

-- the first line of a text in the format
abbrev pub magic_of : Format → List ℕ
magic_of P6 = codes "P6\n"
magic_of P3 = codes "P3\n"

-- the text of a pixel in the format
abbrev pub pixel_text_of : Format → Channels → List ℕ
pixel_text_of P6 = rgb
pixel_text_of P3 = rgb_line

-- what is held grows by the text, but for the piece at the text's end
pub record GrowsBefore (old new : Option (List ℕ)) (piece text : List ℕ) : Type 0 where
  pub bytes : List ℕ
  pub appended : Appends old new bytes
  pub whole : bytes ++ piece ≡ text
