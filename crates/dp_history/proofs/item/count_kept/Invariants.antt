use Rattle.std.proofs.Common.{◌≡◌, ◌≤◌, length, map, take}
use Rattle.std.specs.List.{filter}
use Rattle.dp_acl.specs.Opening.{goes_over}
use Rattle.dp_history.specs.Items.{entry_in}
use Rattle.dp_history.proofs.item.count_kept.Given as goal

abbrev pub invariant-loop-item : goal.invariant-loop-item
invariant-loop-item l =
    (l.count ≡ length (filter (λ e. goes_over e.msg)
    (map (entry_in l.journal) (take l.item-index l.items))))
    × (l.count ≤ l.item-index)
