use Rattle.dp_pixels.proofs.FootLemmas.{apart_feet}
use Rattle.dp_pixels.proofs.laws.feet_apart.Goals as goal

pub returns : goal.returns
returns c = apart_feet
