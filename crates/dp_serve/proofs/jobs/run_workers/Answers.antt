use Rattle.std.proofs.Common.{[], refl}
use Rattle.dp_crew.specs.Gathering.{all_reports}
use Rattle.dp_crew.proofs.CrewLemmas.{gathers-nothing, reports-few}
use Rattle.dp_link_run.specs.Links.{link_seen}
use Rattle.dp_serve.specs.Works.{session_rules}
use Rattle.dp_serve.proofs.jobs.run_workers.Goals as goal

pub of-reports-requires : goal.of-reports-requires
of-reports-requires g c =
    reports-few (session_rules (link_seen g.W.Rx.Source.left g.W.Rx.Source.faults
    g.W.Tx.Sink.held g.W.Tx.Sink.faults)) _ c.args.crew.now.hall.now.start _
    c.run_all-flags.new.seat.view [] c.args.wires.items c.run_all-flags.new.wires.items
    (all_reports c.run_all-flags.new.lists.items) c.run_all-flags.result c.requires.few
    c.run_all-flags.ensures.gathers

pub returns-then-is_err-clause-gathers : goal.returns-then-is_err-clause-gathers
returns-then-is_err-clause-gathers g c =
    gathers-nothing (session_rules (link_seen g.W.Rx.Source.left g.W.Rx.Source.faults
    g.W.Tx.Sink.held g.W.Tx.Sink.faults)) _ c.args.crew.now.hall.now.start _
    c.args.seat.now.view c.args.wires.items _ _ c.requires.first c.new-reports.ensures refl refl
    refl
