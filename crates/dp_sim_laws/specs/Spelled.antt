-- Sessions and schedules in which everything that is said has a spelling.
use Rattle.std.specs.Prelude.{List, ⊤}
use Rattle.std.specs.List.{All}
use Rattle.dp_messages.specs.Messages.{HasSpelling}
use Rattle.dp_messages.specs.declared.message.Entry.{Entry}
use Rattle.dp_epochs.specs.declared.event.Event.{Event}
use Rattle.dp_epochs.specs.declared.event.Event.TheVariants as event
use Rattle.dp_schedule.specs.declared.action.Instruction.{Instruction}
use Rattle.dp_schedule.specs.declared.action.Instruction.TheVariants.{Say}
use Rattle.dp_schedule.specs.declared.action.Action.{Action}
use Rattle.dp_schedule.specs.declared.action.Action.TheVariants.{Act}

-- each message of the entries has a spelling
abbrev pub AreSpelledEntries : List Entry → Type 0
AreSpelledEntries entries = All (λ entry. HasSpelling entry.msg) entries

-- the message that came by the event has one, if one did
abbrev pub IsSpelledEvent : Event → Type 0
IsSpelledEvent (event.Say conn m) = HasSpelling m
IsSpelledEvent other = ⊤

-- the message that a client says by the instruction has one, if it says one
abbrev pub IsSpelledSay : Instruction → Type 0
IsSpelledSay (Say m) = HasSpelling m
IsSpelledSay other = ⊤

-- the message that an action says has a spelling, if it says one
abbrev pub SaysSpelled : Action → Type 0
SaysSpelled (Act client instruction) = IsSpelledSay instruction
SaysSpelled other = ⊤
