use Rattle.std.proofs.Common.{◌≡◌, ◌++◌, take}
use Rattle.std.specs.List.{flat_map}
use Rattle.dp_snap.specs.Snapshot.{attrs_of}
use Rattle.dp_snap.proofs.rows.put_attrs.Given as goal

-- the rows before the place have their attributes
abbrev pub invariant-loop-row : goal.invariant-loop-row
invariant-loop-row l =
    l.commands ≡ l.initial.commands ++ flat_map attrs_of (take l.row-index l.rows)
