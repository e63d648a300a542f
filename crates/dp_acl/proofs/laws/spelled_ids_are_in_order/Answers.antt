use Rattle.dp_acl.proofs.LawLemmas.{spelled_in_order}
use Rattle.dp_acl.proofs.laws.spelled_ids_are_in_order.Goals as goal

pub returns : goal.returns
returns c = spelled_in_order
