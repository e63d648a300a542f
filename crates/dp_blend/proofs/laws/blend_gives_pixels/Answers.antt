use Rattle.dp_blend.proofs.Pixels.{blend-IsPixel}
use Rattle.dp_blend.proofs.laws.blend_gives_pixels.Goals as goal

pub returns : goal.returns
returns c = blend-IsPixel
