use Rattle.dp_ops.specs.Lists.{IsChangedOn, IsFinished}
use Rattle.dp_ops.proofs.Waits.{rows_to}
use Rattle.dp_ops.proofs.lists.TileLists.finish.Given as goal

-- the rows before this one are finished
abbrev pub invariant-loop-row : goal.invariant-loop-row
invariant-loop-row l =
    IsChangedOn (rows_to l.area l.row) (IsFinished l.how) l.initial.self l.self
