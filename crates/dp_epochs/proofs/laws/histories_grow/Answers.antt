use Rattle.dp_epochs.proofs.LawLemmas.{history-grows}
use Rattle.dp_epochs.proofs.laws.histories_grow.Goals as goal

pub returns : goal.returns
returns c journal shut e epoch before = history-grows journal shut e epoch before
