use Rattle.dp_frame.proofs.Splittings.{same_frames_and_rest}
use Rattle.dp_frame.proofs.laws.one_splitting.Goals as goal

pub returns : goal.returns
returns c = same_frames_and_rest
