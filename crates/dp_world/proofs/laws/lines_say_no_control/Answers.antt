use Rattle.dp_world_lines.proofs.Reports.{all_allowed}
use Rattle.dp_world.proofs.laws.lines_say_no_control.Goals as goal

pub returns : goal.returns
returns c lines actions asked = all_allowed c.one_action.ensures.high lines actions asked
