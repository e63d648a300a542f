use Rattle.std.proofs.Common.{All, take}
use Rattle.dp_blend.specs.Color.{IsPixel}
use Rattle.dp_flat.proofs.tone.known_pixels.Given as goal

-- those before the index are pixels
abbrev pub invariant-loop-pixel : goal.invariant-loop-pixel
invariant-loop-pixel l = All IsPixel (take l.pixel-index l.pixels)
