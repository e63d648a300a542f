use Rattle.dp_pixels.proofs.Messages.{message_by_dabs, message_of_none}
use Rattle.dp_pixels.proofs.laws.messages_are_their_dabs.Goals as goal

pub returns-clause-drawn : goal.returns-clause-drawn
returns-clause-drawn c = message_by_dabs

pub returns-clause-stays : goal.returns-clause-stays
returns-clause-stays c = message_of_none
