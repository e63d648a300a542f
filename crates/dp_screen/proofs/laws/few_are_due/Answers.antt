use Rattle.dp_screen.proofs.Few.{moved_few}
use Rattle.dp_screen.proofs.laws.few_are_due.Goals as goal

pub returns-clause-moved : goal.returns-clause-moved
returns-clause-moved g c = moved_few c.few_are_due.ensures.moved
