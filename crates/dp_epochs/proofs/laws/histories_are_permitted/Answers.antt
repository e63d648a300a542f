use Rattle.dp_epochs.proofs.PermittedLemmas.{permitted-histories}
use Rattle.dp_epochs.proofs.laws.histories_are_permitted.Goals as goal

pub returns : goal.returns
returns c = permitted-histories
