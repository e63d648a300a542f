use Rattle.dp_link_tests.proofs.counter.AdderReportingCounter.reports_go_on.Goals as goal

pub returns : goal.returns
returns g c start log longer who run begins legal longest h = record {
  worker = h.worker;
  count = h.count;
}
