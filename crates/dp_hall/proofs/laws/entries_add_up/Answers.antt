use Rattle.dp_hall.proofs.LawLemmas.{as_many}
use Rattle.dp_hall.proofs.laws.entries_add_up.Goals as goal

pub returns : goal.returns
returns g c = as_many g.M.Machine.may_step
