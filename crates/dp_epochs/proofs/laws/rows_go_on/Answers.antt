use Rattle.dp_epochs.proofs.RowLemmas.{stand-append}
use Rattle.dp_epochs.proofs.laws.rows_go_on.Goals as goal

pub returns : goal.returns
returns c = stand-append
