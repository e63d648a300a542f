-- Which connections a log gave out, and which of its Closes were refused.
use Rattle.std.specs.Prelude.{◌≡◌, ◌⊎◌, ℕ, ◌<◌, List, [], ◌∷◌, ◌++◌, length, take, false}
use Rattle.std.specs.Prelude.{Ok, Err, ⊤, alloc_error}
use Rattle.std.specs.List.{flat_map}
use Rattle.dp_hall.specs.Names.{IsIn}
use Rattle.dp_epochs.specs.declared.event.Event.{Event}
use Rattle.dp_epochs.specs.declared.event.Event.TheVariants.{Close}
use Rattle.dp_epochs.specs.declared.event.Reply.TheVariants.{Opened, Ended, StoreFault}
use Rattle.dp_epochs.specs.declared.event.ShutAt.{ShutAt}
use Rattle.dp_epochs.specs.Rows.{has_room}
use Rattle.dp_epochs.specs.Past.{Past, shut_with}
use Rattle.dp_session_laws.specs.Logs.{ReplyOrMemory, LogEntry}
use Rattle.dp_session_laws.specs.Journals.{HasBroken}

-- ---- connections

-- the connection that was given out, if that came
abbrev pub given_by : ReplyOrMemory → List ℕ
given_by (Ok (Opened conn user epoch at)) = conn ∷ []
given_by other = []

-- the connections that a log gave out, in order
abbrev pub given_out : List LogEntry → List ℕ
given_out log = flat_map (λ act. given_by act.outcome) log

-- the numbers rise strictly from above this one on
abbrev pub Rise : ℕ → List ℕ → Type 0
Rise low [] = ⊤
Rise low (n ∷ more) = (low < n) × Rise n more

-- ---- Closes that were refused

-- what an event of which that came adds to the closings that were refused, while n events were kept
abbrev pub shut_by_outcome : ℕ → Event → ReplyOrMemory → List ShutAt
shut_by_outcome n e (Ok Ended) = shut_with n [] e
shut_by_outcome n e (Ok (StoreFault count)) = shut_with n [] e
shut_by_outcome n e other = []

-- what an act adds to the closings that were refused, while n events were kept
abbrev pub shut_by_act : ℕ → LogEntry → List ShutAt
shut_by_act n act = shut_by_outcome n act.event act.outcome

-- the Closes of a log that the limits or the store refused, in order
abbrev pub refused_closes : Past → List LogEntry → List ShutAt
refused_closes past [] = []
refused_closes past (act ∷ log) =
    shut_by_act (length past.journal) act ++ refused_closes act.left log

-- Why a Close was refused, from the one session on to the other: a put has failed, and nothing was
-- kept after; or the limits left no room for it.
abbrev pub IsShutFor : Past → Past → ShutAt → Type 0
IsShutFor old new s =
    (HasBroken old new × (s.n ≡ length new.journal))
    ⊎ (has_room (take s.n new.journal) (Close s.conn) ≡ false)

-- memory ran out in a Close of the connection
pub record HasFailedClose (log : List LogEntry) (conn : ℕ) : Type 0 where
  pub act : LogEntry
  pub within : IsIn act log
  pub event : act.event ≡ Close conn
  pub outcome : act.outcome ≡ Err alloc_error
