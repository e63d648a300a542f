use Rattle.dp_frame.proofs.Splittings.{rest_alone}
use Rattle.dp_frame.proofs.laws.no_frames.Goals as goal

pub returns : goal.returns
returns c = rest_alone
