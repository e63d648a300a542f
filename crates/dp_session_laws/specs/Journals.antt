-- Which acts of a log are in the journal, and what they were answered.
use Rattle.std.specs.Prelude.{◌≡◌, ℕ, Bool, true, false, if◌then◌else◌, List, [], ◌∷◌, Ok, Err}
use Rattle.std.specs.Prelude.{Some}
use Rattle.std.specs.List.{flat_map}
use Rattle.dp_io.specs.Faults.{Rose}
use Rattle.dp_epochs.specs.declared.event.Event.{Event}
use Rattle.dp_epochs.specs.declared.event.Reply.{Reply}
use Rattle.dp_epochs.specs.declared.event.Reply.TheVariants.{Ended, StoreFault}
use Rattle.dp_epochs.specs.Past.{Past}
use Rattle.dp_session_laws.specs.Logs.{ReplyOrMemory, LogEntry}

-- the event of an act of which that came is kept
abbrev pub is_kept : ReplyOrMemory → Bool
is_kept (Ok Ended) = false
is_kept (Ok (StoreFault count)) = false
is_kept (Ok answer) = true
is_kept (Err error) = false

-- the events of a log that are kept, in order
abbrev pub kept_events : List LogEntry → List Event
kept_events [] = []
kept_events (act ∷ log) =
    if is_kept act.outcome then act.event ∷ kept_events log else kept_events log

-- the reply to an act of which that came, if the act is kept
abbrev pub kept_reply : ReplyOrMemory → List Reply
kept_reply (Ok Ended) = []
kept_reply (Ok (StoreFault count)) = []
kept_reply (Ok answer) = answer ∷ []
kept_reply (Err error) = []

-- the replies to the acts of a log that are kept, in order
abbrev pub kept_replies : List LogEntry → List Reply
kept_replies log = flat_map (λ act. kept_reply act.outcome) log

-- a put has failed from the one session on to the other, and the store has counted it
pub record HasBroken (old new : Past) : Type 0 where
  pub count : ℕ
  pub fault : new.first_fault ≡ Some count
  pub rose : Rose old.count new.count
