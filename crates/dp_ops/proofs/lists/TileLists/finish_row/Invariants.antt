use Rattle.dp_ops.specs.Lists.{IsChangedOn, IsFinished, row_to}
use Rattle.dp_ops.proofs.lists.TileLists.finish_row.Given as goal

-- the lists before the column are finished
abbrev pub invariant-loop-col : goal.invariant-loop-col
invariant-loop-col l =
    IsChangedOn (row_to l.row l.left l.col) (IsFinished l.how) l.initial.self l.self
