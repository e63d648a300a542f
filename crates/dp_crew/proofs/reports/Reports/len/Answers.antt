use Rattle.std.proofs.Common.{◌<◌, ◌^◌, length, sym, subst, arith}
use Rattle.dp_crew.specs.Gathering.{all_reports}
use Rattle.dp_crew.proofs.ReportLemmas.{within_all}
use Rattle.dp_crew.proofs.reports.Reports.len.Goals as goal

pub overflow_add-count : goal.overflow_add-count
overflow_add-count g c =
    let fits = subst (λ lists. length (all_reports lists) < 2 ^ 64)
    (sym c.deref-list-items.ensures.value) c.self.invariant in
    let within = within_all (λ list. list.items) c.deref-list-items.result.now
    c.loop-list.list-index c.list-item.result c.loop-list-test.true c.list-item.is in
    omega (arith, fits, within, c.list-item.result.ok, c.loop-list.invariant)
