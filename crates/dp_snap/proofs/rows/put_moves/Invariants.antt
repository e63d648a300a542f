use Rattle.std.proofs.Common.{◌≡◌, ◌++◌, drop}
use Rattle.dp_snap.specs.Snapshot.{moves_after}
use Rattle.dp_snap.proofs.rows.put_moves.Given as goal

-- the moves so far, and those of the rows that are left
abbrev pub invariant-loop-row : goal.invariant-loop-row
invariant-loop-row l =
    l.commands ++ moves_after l.above (drop l.row-index l.rows)
    ≡ l.initial.commands ++ moves_after 0 l.rows
