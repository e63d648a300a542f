use Rattle.dp_epochs.proofs.EffectLemmas.{effect-made}
use Rattle.dp_epochs.proofs.laws.effects_are_made.Goals as goal

pub returns : goal.returns
returns c = effect-made
