use Rattle.dp_frame.proofs.Splittings.{frame_before, frame_after}
use Rattle.dp_frame.proofs.laws.first_frame.Goals as goal

pub returns : goal.returns
returns c = record { put = frame_before; taken = frame_after }
