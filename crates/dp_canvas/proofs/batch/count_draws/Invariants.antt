use Rattle.std.proofs.Common.{◌≡◌, ◌+◌}
use Rattle.dp_canvas.proofs.batch.count_draws.Given as goal

abbrev pub invariant-loop-drawn : goal.invariant-loop-drawn
invariant-loop-drawn g l = l.draws ≡ l.initial.draws + l._drawn
