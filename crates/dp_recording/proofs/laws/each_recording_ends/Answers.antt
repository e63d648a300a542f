use Rattle.dp_recording.proofs.EachRecording.{EachEnds, not-endless}
use Rattle.dp_recording.proofs.Ends.{each-profile}
use Rattle.dp_recording.proofs.laws.each_recording_ends.Goals as goal

pub returns : goal.returns
returns c = not-endless
    (each-profile EachEnds c.each_input_ends.ensures c.each_input_ends-2.ensures)
