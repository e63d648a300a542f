use Rattle.dp_epochs.proofs.LawLemmas.{short-history}
use Rattle.dp_epochs.proofs.laws.histories_are_short.Goals as goal

pub returns : goal.returns
returns c past epoch = short-history past epoch
