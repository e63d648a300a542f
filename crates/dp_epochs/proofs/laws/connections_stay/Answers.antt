use Rattle.dp_epochs.proofs.EffectLemmas.{connection-stays}
use Rattle.dp_epochs.proofs.laws.connections_stay.Goals as goal

pub returns : goal.returns
returns c = connection-stays
