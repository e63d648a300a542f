use Rattle.dp_acl.proofs.OpeningLemmas.{commands-change-nothing}
use Rattle.dp_acl.proofs.laws.commands_change_no_right.Goals as goal

pub returns : goal.returns
returns c = commands-change-nothing
