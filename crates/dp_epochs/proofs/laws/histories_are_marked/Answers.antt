use Rattle.dp_epochs.proofs.LawLemmas.{marked-histories}
use Rattle.dp_epochs.proofs.laws.histories_are_marked.Goals as goal

pub returns : goal.returns
returns c past = marked-histories past
