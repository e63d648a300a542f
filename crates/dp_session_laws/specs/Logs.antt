-- Logs of a session in a hall.
use Rattle.std.specs.Prelude.{◌≡◌, ℕ, List, Result, Ok}
use Rattle.std.specs.declared.alloc.AllocError.{AllocError}
use Rattle.dp_hall.specs.declared.view.Entry.{Entry}
use Rattle.dp_hall.specs.Logs.{IsLegal}
use Rattle.dp_hall.specs.Names.{IsIn}
use Rattle.dp_epochs.specs.declared.event.Event.{Event}
use Rattle.dp_epochs.specs.declared.event.Reply.{Reply}
use Rattle.dp_epochs.specs.declared.event.Reply.TheVariants.{Opened}
use Rattle.dp_epochs.specs.Past.{Past, Step}

-- what came of an event: a reply, or memory ran out
abbrev pub ReplyOrMemory : Type 0
ReplyOrMemory = Result Reply AllocError

-- an act on a session
abbrev pub LogEntry : Type 0
LogEntry = Entry Event ReplyOrMemory Past

-- each act is a step of the session, from what the one before left
abbrev pub IsSessionLog : Past → List LogEntry → Type 0
IsSessionLog past log = IsLegal Step past log

-- an act of the log was answered by this connection, user and place of the Join
pub record HasOpened (log : List LogEntry) (conn user epoch at : ℕ) : Type 0 where
  pub act : LogEntry
  pub within : IsIn act log
  pub answer : act.outcome ≡ Ok (Opened conn user epoch at)
