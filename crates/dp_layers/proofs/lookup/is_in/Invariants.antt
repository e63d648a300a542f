use Rattle.std.proofs.Common.{◌≡◌, ◌==◌, ◌||◌, ◌-◌}
use Rattle.dp_layers.specs.Layers.{is_below, is_in}
use Rattle.dp_layers.proofs.lookup.is_in.Given as goal

-- what is left to go up answers for the whole way
abbrev pub invariant-loop-step : goal.invariant-loop-step
invariant-loop-step l =
    (l.at == l.other || is_below (16 - l._step) l.rows l.at l.other) ≡ is_in l.rows l.id l.other
