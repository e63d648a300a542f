use Rattle.dp_pixels.proofs.FootLemmas.{shared}
use Rattle.dp_pixels.proofs.laws.shared_places.Goals as goal

pub returns : goal.returns
returns c = shared
