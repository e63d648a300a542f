use Rattle.dp_rollback.proofs.DueLemmas.{own_command_is_due, few_are_due}
use Rattle.dp_rollback.proofs.laws.few_are_due.Goals as goal

pub returns-clause-unmoved : goal.returns-clause-unmoved
returns-clause-unmoved g c = own_command_is_due _

pub returns-clause-moved : goal.returns-clause-moved
returns-clause-moved g c = few_are_due _
