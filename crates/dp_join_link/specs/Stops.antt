-- What stops a client over a link.
use Rattle.dp_entries.specs.declared.ends.ReadEnd.{ReadEnd}
use Rattle.dp_entries.specs.declared.ends.ReadEnd.TheVariants as read
use Rattle.dp_lines.specs.declared.run_end.RunEnd.{RunEnd}
use Rattle.dp_lines.specs.declared.run_end.RunEnd.TheVariants as run
use Rattle.dp_join_link.specs.declared.join_standing.LinkFlaw.{LinkFlaw}
use Rattle.dp_join_link.specs.declared.stops.LinkCause.TheVariants as cause
use Rattle.dp_join_link.specs.declared.stops.JoinStop.{JoinStop}
use Rattle.dp_join_link.specs.declared.stops.JoinStop.TheVariants as stop
use Rattle.dp_join_link.specs.Links.{link_end}

-- what stops it if reading its link ended with this
abbrev pub stop_of : ReadEnd LinkFlaw → JoinStop
stop_of read.ReadFault = stop.LinkFault
stop_of (read.Truncated at) = stop.NoEntry cause.Closed
stop_of (read.BadMessage flaw at) = stop.NoEntry (cause.BadMessage at)
stop_of read.Long = stop.NoEntry cause.Long
stop_of read.Memory = stop.Memory

-- how a run ends that stops with this
abbrev pub end_of : JoinStop → RunEnd
end_of stop.WriteFault = run.WriteFault
end_of stop.LinkFault = run.LinkFault
end_of stop.Memory = run.Memory
end_of (stop.NoEntry why) = link_end why
