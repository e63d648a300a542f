use Rattle.dp_link_run.specs.Links.{link_seen}
use Rattle.dp_serve.proofs.LinkLemmas.{session-goes-on}
use Rattle.dp_serve.proofs.told.ToldReportingAnySession.reports_go_on.Goals as goal

pub returns : goal.returns
returns g c =
    session-goes-on (link_seen g.R.Source.left g.R.Source.faults g.T.Sink.held g.T.Sink.faults)
    (record {
      grows = c.sessions_go_on.ensures.grows;
      feeds = c.feeds_go_on.ensures;
      gone = c.gone_goes_on.ensures;
    })
