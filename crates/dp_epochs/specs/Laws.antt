-- What laws of sessions speak of.
use Rattle.std.specs.Prelude.{◌≡◌, ◌≤◌, ◌<◌, ◌⊎◌, ℕ, Bool, true, false, None, Some, List, [], ◌∷◌}
use Rattle.std.specs.Prelude.{◌++◌, length, Result, Ok, Err, ⊤}
use Rattle.std.specs.List.{All, AllByRecursion}
use Rattle.std.specs.declared.alloc.AllocError.{AllocError}
use Rattle.dp_messages.specs.declared.message.Entry.{Entry}
use Rattle.dp_messages.specs.Properties.{marked, carried_in}
use Rattle.dp_messages.specs.declared.message.Msg.{Msg}
use Rattle.dp_messages.specs.declared.message.Msg.TheVariants as msg
use Rattle.dp_msg_meta.specs.declared.message.Meta.TheVariants.{Join, Leave, Filtered}
use Rattle.dp_acl.specs.Permitted.{permitted}
use Rattle.dp_epochs.specs.declared.event.Event.{Event}
use Rattle.dp_epochs.specs.declared.event.Reply.{Reply}
use Rattle.dp_epochs.specs.declared.event.Reply.TheVariants.{StoreFault}
use Rattle.dp_epochs.specs.declared.event.Event.TheVariants as event
use Rattle.dp_epochs.specs.State.{State, after_shut, epoch_of, history_of}
use Rattle.dp_epochs.specs.Past.{Past, Step}

-- a history is another with more entries after it
abbrev pub Continues : List Entry → List Entry → Type 0
Continues before after = (more : List Entry) × (after ≡ before ++ more)

-- no entry is a mark of an epoch
abbrev pub HasNoMark : List Entry → Type 0
HasNoMark entries = AllByRecursion (λ entry. marked entry.msg ≡ None) entries

-- a history begins with the mark of its epoch, and has no other
abbrev pub IsHistory : ℕ → List Entry → Type 0
IsHistory epoch [] = ⊥
IsHistory epoch (first ∷ rest) = (marked first.msg ≡ Some epoch) × HasNoMark rest

-- each history of the state is one of its epoch
abbrev pub AreHistories : State → Type 0
AreHistories s =
    (epoch : ℕ) → epoch ≤ epoch_of s → IsHistory epoch (history_of s epoch)

-- the server alone places the message
abbrev pub is_servers : Msg → Bool
is_servers (msg.Meta (Join registered name)) = true
is_servers (msg.Meta Leave) = true
is_servers (msg.Meta (Filtered kind)) = true
is_servers m = false

-- after these entries the entry may stand: it is the server's, or its user may send its message
abbrev pub IsAllowed : List Entry → Entry → Type 0
IsAllowed before entry =
    (entry.user ≡ 0) ⊎ (is_servers entry.msg ≡ true)
    ⊎ (permitted before entry.user entry.msg ≡ true)

-- each entry after those that the history carried is allowed after the entries before it
abbrev pub ArePermitted : List Entry → Type 0
ArePermitted history =
    (before after : List Entry) (entry : Entry)
    → history ≡ before ++ entry ∷ after → carried_in history < length before
    → IsAllowed before entry

-- an event, what came of it, and what it left
pub record LoggedStep : Type 0 where
  pub event : Event
  pub answer : Result Reply AllocError
  pub left : Past

-- each step is one that a session may make, from what the one before left
abbrev pub IsRun : Past → List LoggedStep → Type 0
IsRun past [] = ⊤
IsRun past (outcome ∷ log) =
    Step past outcome.event outcome.answer outcome.left × IsRun outcome.left log

-- the fault of this count was answered, or memory ran out
abbrev pub IsFault : ℕ → Result Reply AllocError → Type 0
IsFault first (Ok answer) = answer ≡ StoreFault first
IsFault first (Err want) = ⊤

-- that is so of each outcome
abbrev pub AreFaults : ℕ → List LoggedStep → Type 0
AreFaults first [] = ⊤
AreFaults first (outcome ∷ log) = IsFault first outcome.answer × AreFaults first log

-- each closing that was refused was so while no more events were kept than now
abbrev pub ShutBefore : Past → Type 0
ShutBefore past = All (λ s. s.n ≤ length past.journal) past.shut

-- the state after an event that the limits refused: a Close closes its connection
abbrev pub shut_by : State → Event → State
shut_by s (event.Open name registered) = s
shut_by s (event.Say conn m) = s
shut_by s (event.Close conn) = after_shut s conn
