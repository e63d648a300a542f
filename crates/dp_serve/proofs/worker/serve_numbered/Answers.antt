use Rattle.dp_link_run.specs.Links.{link_seen}
use Rattle.dp_serve.proofs.LinkLemmas.{session-serves}
use Rattle.dp_serve.proofs.worker.serve_numbered.Goals as goal

pub returns-clause-serves : goal.returns-clause-serves
returns-clause-serves g c =
    session-serves (link_seen g.R.Source.left g.R.Source.faults g.T.Sink.held g.T.Sink.faults) _
    c.args.worker.now.who c.args.link c.args.seat.now.view c.serve_link-rx.new.seat.view
    c.serve_link-rx.result.end (c.args.rx, c.args.tx) c.serve_link-rx.result.rx
    c.serve_link-rx.result.tx c.serve_link-rx.ensures.serves
