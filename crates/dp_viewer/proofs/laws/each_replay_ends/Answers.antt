use Rattle.dp_io.specs.Limits.{stream_limit}
use Rattle.dp_viewer.proofs.laws.each_replay_ends.Goals as goal

pub returns : goal.returns
returns c = c.each_input_ends.ensures 0 stream_limit
