use Rattle.dp_hall.specs.Calls.{IsOf}
use Rattle.dp_crew.specs.Runs.{ServedSoFar}
use Rattle.dp_crew.proofs.worker.run_links.Given as goal

-- the links before this one were served
abbrev pub invariant-links : goal.invariant-links
invariant-links g l = record {
  of : IsOf (g.S.Service.hall l.service) l.seat;
  far : ServedSoFar g.S.Reporting.rules
      (g.S.Service.hall l.service).start l.who l.link l.initial.seat.view
      l.seat.view (g.W.Wire.links l.initial.wire) (g.W.Wire.links l.wire)
      (g.W.Wire.faults l.initial.wire) (g.W.Wire.faults l.wire) l.worked;
}
