use Rattle.std.proofs.Common.{◌≡◌, ◌+◌, ◌≤◌, vec_len, vec_capacity}
use Rattle.dp_hall.specs.Calls.{IsOf}
use Rattle.dp_crew.proofs.Making.{MadeSoFar}
use Rattle.dp_crew.proofs.jobs.make_jobs.Given as goal

abbrev pub invariant-wires : goal.invariant-wires
invariant-wires g l = record {
  of : IsOf l.hall l.seat;
  made : MadeSoFar l.hall l.fn.seat.view l.seat.view l.fn.wires.items l.wires.items l.jobs.items;
  few : vec_len l.wires ≤ 64;
  room : vec_len l.wires + vec_len l.jobs ≤ vec_capacity l.jobs;
  kept : vec_capacity l.wires ≡ vec_capacity l.fn.wires;
}

abbrev pub decreases-wires : goal.decreases-wires
decreases-wires g l = vec_len l.wires
