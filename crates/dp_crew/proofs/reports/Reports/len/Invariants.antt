use Rattle.std.proofs.Common.{◌≡◌, length, take}
use Rattle.dp_crew.specs.Gathering.{all_reports}
use Rattle.dp_crew.proofs.reports.Reports.len.Given as goal

abbrev pub invariant-loop-list : goal.invariant-loop-list
invariant-loop-list g l = l.count ≡ length (all_reports (take l.list-index l.list-items))
