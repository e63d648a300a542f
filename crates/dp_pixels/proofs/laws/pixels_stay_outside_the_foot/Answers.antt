use Rattle.dp_pixels.proofs.FootLemmas.{drawn_keeps}
use Rattle.dp_pixels.proofs.laws.pixels_stay_outside_the_foot.Goals as goal

pub returns : goal.returns
returns c = drawn_keeps
