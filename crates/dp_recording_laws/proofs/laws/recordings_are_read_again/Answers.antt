use Rattle.dp_recording_laws.proofs.Written.{written}
use Rattle.dp_recording_laws.proofs.laws.recordings_are_read_again.Goals as goal

pub returns : goal.returns
returns c =
    written c.the_header_is_one.ensures c.entries_are_read_again.ensures.frame
    c.entries_are_read_again.ensures.carries
