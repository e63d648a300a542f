use Rattle.dp_keep_laws.proofs.WorkedKeep.{worked-ends, worked-cut}
use Rattle.dp_keep_laws.proofs.laws.worked_reset_keeps.Goals as goal

pub returns-clause-ends : goal.returns-clause-ends
returns-clause-ends c = worked-ends

pub returns-clause-cut : goal.returns-clause-cut
returns-clause-cut c = worked-cut
