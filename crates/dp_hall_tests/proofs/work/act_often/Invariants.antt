use Rattle.dp_hall.specs.Calls.{IsOf}
use Rattle.dp_hall_tests.specs.Working.{Acted}
use Rattle.dp_hall_tests.proofs.work.act_often.Given as goal

abbrev pub invariant-loop-number : goal.invariant-loop-number
invariant-loop-number g l = IsOf l.hall l.seat × Acted l.fn.seat.view l.seat.view
