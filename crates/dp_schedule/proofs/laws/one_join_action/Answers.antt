use Rattle.dp_lines.specs.Lines.{words}
use Rattle.dp_schedule.proofs.OneJoinAction.{one_join_asked}
use Rattle.dp_schedule.proofs.laws.one_join_action.Goals as goal

pub returns : goal.returns
returns c line action other =
    one_join_asked c.one_number.ensures c.one_message.ensures.message (words line) action other
