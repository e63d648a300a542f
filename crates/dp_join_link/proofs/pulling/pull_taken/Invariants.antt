use Rattle.std.proofs.Common.{◌-◌}
use Rattle.dp_io.specs.Limits.{stream_limit}
use Rattle.dp_join_link.specs.Reading.{source_at}
use Rattle.dp_join_link.proofs.Reading.{Pings}
use Rattle.dp_join_link.proofs.pulling.pull_taken.Given as goal

-- only Pings were read
abbrev pub invariant-pings : goal.invariant-pings
invariant-pings g l =
    Pings (source_at g.R.Source.left g.R.Source.faults l.fn.reader l.fn.rx)
    (source_at g.R.Source.left g.R.Source.faults l.reader l.rx)

abbrev pub decreases-pings : goal.decreases-pings
decreases-pings g l = stream_limit - l.reader.stream.at
