-- What a tile shows at each of its places.
use Rattle.std.specs.Prelude.{◌≡◌, ℕ, List, length, slice_index_or, ⊤}
use Rattle.dp_blend.specs.Color.{Channels, clear}
use Rattle.dp_blend.specs.declared.stretch.Stretch.{Stretch}
use Rattle.dp_blend.specs.declared.stretch.Stretch.TheVariants as stretches
use Rattle.dp_flat.specs.declared.tone.Tone.{Tone}
use Rattle.dp_flat.specs.declared.tone.Tone.TheVariants as tones

-- what a tile of this tone, with this buffer, shows at a place
abbrev pub tone_at : Tone → List Channels → ℕ → Channels
tone_at (tones.Solid color) buffer i = color
tone_at tones.Mixed buffer i = slice_index_or buffer i clear

-- what a stretch shows at a place
abbrev pub stretch_at : Stretch → ℕ → Channels
stretch_at (stretches.Solid color) i = color
stretch_at (stretches.Pixels shown) i = slice_index_or shown.now i clear

-- a stretch is `count` pixels long; one of one colour is as long as is wanted
abbrev pub IsAsLong : Stretch → ℕ → Type 0
IsAsLong (stretches.Solid color) count = ⊤
IsAsLong (stretches.Pixels shown) count = length shown.now ≡ count
