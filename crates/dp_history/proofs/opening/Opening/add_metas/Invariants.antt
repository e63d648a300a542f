use Rattle.std.proofs.Common.{◌++◌, List, map, take}
use Rattle.dp_messages.specs.declared.message.Entry.{Entry}
use Rattle.dp_epochs.specs.declared.event.Event.{Event}
use Rattle.dp_acl.specs.Opening.{server_entry}
use Rattle.dp_history.specs.Openings.{Holds}
use Rattle.dp_history.proofs.opening.Opening.add_metas.Given as goal

abbrev pub invariant-loop-meta : goal.invariant-loop-meta
invariant-loop-meta l = (journal : List Event) (history : List Entry)
    → Holds journal l.initial.self history
    → Holds journal l.self (history ++ map server_entry (take l.meta-index l.metas))
