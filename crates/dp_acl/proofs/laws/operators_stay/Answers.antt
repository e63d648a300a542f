use Rattle.dp_acl.proofs.LawLemmas.{operators-stay}
use Rattle.dp_acl.proofs.laws.operators_stay.Goals as goal

pub returns : goal.returns
returns c = operators-stay
