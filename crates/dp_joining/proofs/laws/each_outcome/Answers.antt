use Rattle.dp_io.specs.Limits.{stream_limit}
use Rattle.dp_joining.proofs.EachOutcome.{not_endless}
use Rattle.dp_joining.proofs.laws.each_outcome.Goals as goal

pub returns : goal.returns
returns c = not_endless c.further_step.ensures.none c.further_step.ensures.more
    (c.each_input_ends.ensures 0 stream_limit)
