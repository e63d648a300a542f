use Rattle.std.proofs.Common.{◌++◌, List, map, take, All}
use Rattle.dp_messages.specs.declared.message.Entry.{Entry}
use Rattle.dp_epochs.specs.declared.event.Event.{Event}
use Rattle.dp_acl.specs.Opening.{command_entry}
use Rattle.dp_history.specs.Openings.{Holds}
use Rattle.dp_history.specs.Items.{IsPart, commands_in}
use Rattle.dp_history.proofs.opening.Opening.add_commands.Given as goal

abbrev pub invariant-loop-part : goal.invariant-loop-part
invariant-loop-part l = (journal : List Event) (history : List Entry)
    → All (IsPart journal) l.parts → Holds journal l.initial.self history
    → Holds journal l.self
    (history ++ map command_entry (commands_in journal (take l.part-index l.parts)))
