use Rattle.std.proofs.Common.{◌++◌, List, map, take}
use Rattle.std.specs.List.{filter}
use Rattle.dp_messages.specs.declared.message.Entry.{Entry}
use Rattle.dp_acl.specs.Opening.{goes_over}
use Rattle.dp_history.specs.Openings.{Holds}
use Rattle.dp_history.specs.Items.{entry_in}
use Rattle.dp_history.proofs.opening.Opening.add_kept.Given as goal

abbrev pub invariant-loop-item : goal.invariant-loop-item
invariant-loop-item l = (history : List Entry)
    → Holds l.journal l.fn.self history
    → Holds l.journal l.self
    (history ++ filter (λ e. goes_over e.msg)
    (map (entry_in l.journal) (take l.item-index l.items)))
