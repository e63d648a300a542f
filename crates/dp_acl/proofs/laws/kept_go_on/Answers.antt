use Rattle.dp_acl.proofs.KeptLemmas.{kept-goes, going-joins}
use Rattle.dp_acl.proofs.laws.kept_go_on.Goals as goal

pub returns-clause-go_on : goal.returns-clause-go_on
returns-clause-go_on c = kept-goes

pub returns-clause-joins : goal.returns-clause-joins
returns-clause-joins c = going-joins
