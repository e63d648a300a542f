use Rattle.dp_messages.proofs.OneMessage.{one_hearing}
use Rattle.dp_messages.proofs.laws.one_hearing.Goals as goal

pub returns : goal.returns
returns c = one_hearing c.one_message.ensures.message c.one_splitting.ensures
