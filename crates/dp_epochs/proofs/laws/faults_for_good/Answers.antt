use Rattle.dp_epochs.proofs.LawLemmas.{broken-for_good}
use Rattle.dp_epochs.proofs.laws.faults_for_good.Goals as goal

pub returns : goal.returns
returns c past first log first_fault run = broken-for_good past first log first_fault run
