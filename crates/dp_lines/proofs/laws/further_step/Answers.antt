use Rattle.dp_lines.proofs.Readings.{no_steps, one_more_step}
use Rattle.dp_lines.proofs.laws.further_step.Goals as goal

pub returns : goal.returns
returns g c =
    record { none = no_steps g.S.StepRule.is_step; more = one_more_step g.S.StepRule.is_step }
