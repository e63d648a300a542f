use Rattle.dp_world.proofs.Due.{not_endless}
use Rattle.dp_world.proofs.laws.every_schedule.Goals as goal

pub returns : goal.returns
returns c = not_endless c.further_step.ensures.more c.further_step.ensures.none
