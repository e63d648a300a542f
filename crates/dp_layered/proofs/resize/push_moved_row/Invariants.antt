use Rattle.std.proofs.Common.{◌≡◌, ◌++◌}
use Rattle.dp_layered.specs.Moves.{row_moved}
use Rattle.dp_layered.proofs.resize.push_moved_row.Given as goal

-- the pixels before x are added
abbrev pub invariant-loop-x : goal.invariant-loop-x
invariant-loop-x l = l.moved.items ≡ l.initial.moved.items ++ row_moved l.x l.row l.left
