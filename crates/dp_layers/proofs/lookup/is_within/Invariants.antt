use Rattle.std.proofs.Common.{◌≡◌, ◌-◌}
use Rattle.dp_layers.specs.Layers.{is_within}
use Rattle.dp_layers.specs.Inside.{as_moved}
use Rattle.dp_layers.proofs.lookup.is_within.Given as goal

-- what is left to go up answers for the whole way
abbrev pub invariant-loop-step : goal.invariant-loop-step
invariant-loop-step l =
    is_within (l.limit - l._step) (as_moved l.rows l.moved) l.at
    ≡ is_within l.limit (as_moved l.rows l.moved) l.id
