use Rattle.std.proofs.Common.{◌≡◌, ◌+◌, ◌-◌, ◌≤◌, drop, length, slice_get, refl, sym, ap, ◌∙◌}
use Rattle.std.proofs.Common.{arith}
use Rattle.std.proofs.lemmas.Option.{slice_get_read}
use Rattle.dp_crew.specs.Gathering.{all_reports}
use Rattle.dp_crew.proofs.ReportLemmas.{in_this_list, past_this_list}
use Rattle.dp_crew.proofs.reports.Reports.get.Goals as goal

pub returns-in-Some : goal.returns-in-Some
returns-in-Some g c =
    let lists = c.deref-list-items.result.now in
    let found = c.in-Some.ensures.lookup in
    let here = slice_get_read c.deref.result.now (length c.deref.result.now) c.loop-list.k
    c.in-Some.report.now refl found.3.0 found.1 in
    let viewed = sym c.self.view_is ∙ ap all_reports (sym c.deref-list-items.ensures.value) in
    sym (ap (λ l. slice_get l c.args.k) viewed
    ∙ c.loop-list.invariant
    ∙ in_this_list (λ list. list.items) lists c.loop-list.list-index c.list-item.result
    c.loop-list-test.true c.list-item.is c.loop-list.k c.in-Some.report.now
    (ap (λ l. slice_get l c.loop-list.k) (sym c.deref.ensures.value) ∙ here))

pub loop-list-preserved : goal.loop-list-preserved
loop-list-preserved g c =
    let lists = c.deref-list-items.result.now in
    let rest = all_reports (drop (c.loop-list.list-index + 1) lists) in
    let past : length c.list-item.result.items ≤ c.loop-list.k = omega (
      arith,
      c.in-None.ensures.lookup.3,
      ap (λ l. length l) c.deref.ensures.value,
    ) in
    let less : c.loop-list.k - length c.list-item.result.items ≡ c.loop-list.k - c.len-k.result =
    omega (arith, c.len-k.ensures, c.list-item.result.ok) in
    c.loop-list.invariant
    ∙ past_this_list (λ list. list.items) lists c.loop-list.list-index c.list-item.result
    c.loop-list-test.true c.list-item.is c.loop-list.k past
    ∙ ap (slice_get rest) less
