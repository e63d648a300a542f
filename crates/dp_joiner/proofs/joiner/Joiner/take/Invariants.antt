use Rattle.dp_schedule.specs.declared.join_action.JoinAction.TheVariants.{Take}
use Rattle.dp_joiner.specs.Steps.{Passes, seen}
use Rattle.dp_joiner.proofs.joiner.Joiner.take.Given as goal

-- as many entries are taken as were counted
abbrev pub invariant-loop-taken : goal.invariant-loop-taken
invariant-loop-taken g l =
    Passes (seen g.O.Sink.held g.O.Sink.faults l.initial.self l.initial.output l.initial.draws
    l.initial.tiles)
    (seen g.O.Sink.held g.O.Sink.faults l.self l.output l.draws l.tiles) (Take l._taken)
