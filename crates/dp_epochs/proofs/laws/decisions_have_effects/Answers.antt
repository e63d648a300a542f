use Rattle.dp_epochs.proofs.EffectLemmas.{decision-cause}
use Rattle.dp_epochs.proofs.laws.decisions_have_effects.Goals as goal

pub returns : goal.returns
returns c = decision-cause
