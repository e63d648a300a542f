use Rattle.dp_pixels.proofs.FootLemmas.{drawn_same}
use Rattle.dp_pixels.proofs.laws.the_foot_tells_all.Goals as goal

pub returns : goal.returns
returns c = drawn_same
