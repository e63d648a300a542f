use Rattle.dp_epochs.proofs.LawLemmas.{few-epochs}
use Rattle.dp_epochs.proofs.laws.epochs_are_few.Goals as goal

pub returns : goal.returns
returns c past = few-epochs past
