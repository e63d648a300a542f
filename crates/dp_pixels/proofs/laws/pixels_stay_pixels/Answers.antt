use Rattle.dp_pixels.proofs.PixelLemmas.{drawn-IsPixel}
use Rattle.dp_pixels.proofs.laws.pixels_stay_pixels.Goals as goal

pub returns : goal.returns
returns c = drawn-IsPixel c.blend_gives_pixels.ensures c.fade_gives_pixels.ensures
