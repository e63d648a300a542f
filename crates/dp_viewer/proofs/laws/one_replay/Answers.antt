use Rattle.dp_io.specs.Limits.{stream_limit}
use Rattle.dp_viewer.proofs.laws.one_replay.Goals as goal

pub returns-clause-entries : goal.returns-clause-entries
returns-clause-entries c input es ds end other h k =
    c.one_reading.ensures.entries 0 stream_limit input es ds end other h k

pub returns-clause-end : goal.returns-clause-end
returns-clause-end c input es ds end other h k =
    c.one_reading.ensures.end 0 stream_limit input es ds end other h k
