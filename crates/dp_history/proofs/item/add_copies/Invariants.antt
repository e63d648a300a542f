use Rattle.std.proofs.Common.{◌≡◌, ◌++◌, map, take}
use Rattle.dp_history.specs.Items.{entry_in}
use Rattle.dp_history.proofs.item.add_copies.Given as goal

abbrev pub invariant-loop-item : goal.invariant-loop-item
invariant-loop-item l = l.entries.items
    ≡ l.initial.entries.items ++ map (entry_in l.journal) (take l.item-index l.items)
