use Rattle.std.proofs.Common.{◌≡◌}
use Rattle.dp_hall.specs.Calls.{IsOf}
use Rattle.dp_link_tests.specs.Counting.{Adds}
use Rattle.dp_link_tests.proofs.counter.add_all.Given as goal

-- the bytes before this one were added
abbrev pub invariant-bytes : goal.invariant-bytes
invariant-bytes g l = record {
  of : IsOf l.hall l.seat;
  count : l.far.count ≡ l._k;
  adds : Adds l.initial.seat.view l.far.count l.far.memory l.seat.view;
}
