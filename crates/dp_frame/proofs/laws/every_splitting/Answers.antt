use Rattle.dp_frame.proofs.Splittings.{some_splitting}
use Rattle.dp_frame.proofs.laws.every_splitting.Goals as goal

pub returns : goal.returns
returns c = some_splitting
