use Rattle.std.proofs.Common.{◌≡◌, ◌++◌, map, take}
use Rattle.dp_snap.specs.Snapshot.{create_of}
use Rattle.dp_snap.proofs.rows.put_creates.Given as goal

-- the rows before the place are created
abbrev pub invariant-loop-row : goal.invariant-loop-row
invariant-loop-row l = l.commands ≡ l.initial.commands ++ map create_of (take l.row-index l.rows)
