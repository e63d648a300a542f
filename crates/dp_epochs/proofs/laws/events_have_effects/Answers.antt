use Rattle.dp_epochs.proofs.EffectLemmas.{has-effect}
use Rattle.dp_epochs.proofs.laws.events_have_effects.Goals as goal

pub returns : goal.returns
returns c = has-effect
