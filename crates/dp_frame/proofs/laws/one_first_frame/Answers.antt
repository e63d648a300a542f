use Rattle.dp_frame.proofs.Spellings as spellings
use Rattle.dp_frame.proofs.laws.one_first_frame.Goals as goal

pub returns : goal.returns
returns c = spellings.one_first_frame
