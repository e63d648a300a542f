use Rattle.dp_acl.proofs.OpeningLemmas.{kept-change-nothing}
use Rattle.dp_acl.proofs.laws.kept_change_no_right.Goals as goal

pub returns : goal.returns
returns c = kept-change-nothing
