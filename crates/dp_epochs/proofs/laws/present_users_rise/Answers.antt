use Rattle.dp_epochs.proofs.OpeningLemmas.{present-rise}
use Rattle.dp_epochs.proofs.laws.present_users_rise.Goals as goal

pub returns : goal.returns
returns c s = present-rise s
