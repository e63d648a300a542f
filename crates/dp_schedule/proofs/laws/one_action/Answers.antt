use Rattle.dp_lines.specs.Lines.{words}
use Rattle.dp_schedule.proofs.OneAction.{one_asked}
use Rattle.dp_schedule.proofs.laws.one_action.Goals as goal

pub returns-clause-one : goal.returns-clause-one
returns-clause-one c line action other =
    one_asked c.one_number.ensures c.one_message.ensures.message (words line) action other
