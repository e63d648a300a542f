use Rattle.dp_acl.proofs.OpeningLemmas.{openings-change-nothing}
use Rattle.dp_acl.proofs.laws.openings_change_no_right.Goals as goal

pub returns : goal.returns
returns c = openings-change-nothing
