-- Parts of rows of pixels.
use Rattle.std.specs.Prelude.{◌≡◌, List, length, replicate}
use Rattle.dp_blend.specs.Color.{Channels}
use Rattle.dp_blend.specs.declared.stretch.Stretch.{Stretch}
use Rattle.dp_blend.specs.declared.stretch.Stretch.TheVariants.{Solid, Pixels}

-- the part of a row has these pixels
abbrev pub IsStretch : Stretch → List Channels → Type 0
IsStretch (Solid color) pixels = pixels ≡ replicate (length pixels) color
IsStretch (Pixels shown) pixels = shown.now ≡ pixels
