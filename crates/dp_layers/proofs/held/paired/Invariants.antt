use Rattle.std.proofs.Common.{◌≡◌, ◌++◌, drop}
use Rattle.std.specs.Vec.Iter.{into_iter_items}
use Rattle.dp_layers.specs.Inside.{paired}
use Rattle.dp_layers.proofs.held.paired.Given as goal

-- what is held so far and what the rest makes are all
abbrev pub invariant-loop-row : goal.invariant-loop-row
invariant-loop-row g l =
    l.held.items ++ paired (drop l.row-index l.rows) (into_iter_items l.rest)
    ≡ paired l.fn.rows l.fn.contents.items
