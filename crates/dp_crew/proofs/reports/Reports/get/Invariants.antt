use Rattle.std.proofs.Common.{◌≡◌, drop, slice_get}
use Rattle.dp_crew.specs.Gathering.{all_reports}
use Rattle.dp_crew.proofs.reports.Reports.get.Given as goal

abbrev pub invariant-loop-list : goal.invariant-loop-list
invariant-loop-list g l =
    slice_get (all_reports l.list-items) l.fn.k
    ≡ slice_get (all_reports (drop l.list-index l.list-items)) l.k
