use Rattle.dp_epochs.proofs.LawLemmas.{answered-once}
use Rattle.dp_epochs.proofs.laws.one_answer_each.Goals as goal

pub returns : goal.returns
returns c past = answered-once past
