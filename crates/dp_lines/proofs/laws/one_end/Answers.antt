use Rattle.dp_lines.proofs.Readings.{one_reading}
use Rattle.dp_lines.proofs.laws.one_end.Goals as goal

pub returns-clause-lines : goal.returns-clause-lines
returns-clause-lines g c limit bytes done others end last first second =
    (one_reading g.S.StepRule.is_step limit bytes done others end last first second).0

pub returns-clause-end : goal.returns-clause-end
returns-clause-end g c limit bytes done others end last first second =
    (one_reading g.S.StepRule.is_step limit bytes done others end last first second).1
