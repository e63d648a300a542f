use Rattle.dp_hall.specs.Calls.{IsOf}
use Rattle.dp_crew.specs.Runs.{ServedSoFar}
use Rattle.dp_link_run.specs.Links.{link_seen}
use Rattle.dp_serve.specs.Works.{session_rules}
use Rattle.dp_serve.proofs.worker.run_worker.Given as goal

-- the links before this one were served
abbrev pub invariant-links : goal.invariant-links
invariant-links g l = record {
  of : IsOf l.worker.hall.now l.seat;
  far : ServedSoFar (session_rules (link_seen g.W.Rx.Source.left g.W.Rx.Source.faults
      g.W.Tx.Sink.held g.W.Tx.Sink.faults)) l.worker.hall.now.start l.worker.who l.link
      l.initial.seat.view l.seat.view (g.W.Wire.links l.initial.wire) (g.W.Wire.links l.wire)
      (g.W.Wire.faults l.initial.wire) (g.W.Wire.faults l.wire) l.worked;
}
