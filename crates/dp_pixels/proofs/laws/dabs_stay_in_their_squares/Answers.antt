use Rattle.dp_pixels.proofs.FootLemmas.{dab_stays}
use Rattle.dp_pixels.proofs.laws.dabs_stay_in_their_squares.Goals as goal

pub returns : goal.returns
returns c = dab_stays
