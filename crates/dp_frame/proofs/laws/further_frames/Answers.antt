use Rattle.dp_frame.proofs.Splittings.{further_after}
use Rattle.dp_frame.proofs.laws.further_frames.Goals as goal

pub returns : goal.returns
returns c = further_after
