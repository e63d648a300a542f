use Rattle.dp_messages.proofs.OneMessage.{one_entry}
use Rattle.dp_messages.proofs.laws.one_answer.Goals as goal

pub returns-clause-entry : goal.returns-clause-entry
returns-clause-entry c = one_entry c.one_message.ensures.message
