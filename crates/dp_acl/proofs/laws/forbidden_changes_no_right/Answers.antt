use Rattle.dp_acl.proofs.LawLemmas.{forbidden_changes_nothing}
use Rattle.dp_acl.proofs.laws.forbidden_changes_no_right.Goals as goal

pub returns : goal.returns
returns c = forbidden_changes_nothing
