use Rattle.dp_entries.proofs.EachInput.{not_endless}
use Rattle.dp_entries.proofs.laws.each_input_ends.Goals as goal

pub returns : goal.returns
returns g c = not_endless g.S.Standing.may_stand
