use Rattle.dp_epochs.proofs.LawLemmas.{epoch-rises}
use Rattle.dp_epochs.proofs.laws.epochs_rise.Goals as goal

pub returns-clause-rise : goal.returns-clause-rise
returns-clause-rise c s e = (epoch-rises s e).0

pub returns-clause-next : goal.returns-clause-next
returns-clause-next c s e = (epoch-rises s e).1
