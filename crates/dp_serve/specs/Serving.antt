-- What the server of a session does, worker by worker.
use Rattle.std.specs.Prelude.{◌≡◌, ℕ, Bool, true, List, ◌++◌, map}
use Rattle.std.specs.Prelude.{Option}
use Rattle.std.specs.List.{list_any}
use Rattle.dp_keeper.specs.declared.row.Row.{Row}
use Rattle.dp_wire.specs.Links.{Links}
use Rattle.dp_hall.specs.Logs.{left_by}
use Rattle.dp_hall.specs.Names.{IsIn, AreDistinct}
use Rattle.dp_epochs.specs.declared.event.Event.{Event}
use Rattle.dp_epochs.specs.declared.event.ShutAt.{ShutAt}
use Rattle.dp_epochs.specs.Past.{Past}
use Rattle.dp_session_laws.specs.Logs.{LogEntry, ReplyOrMemory, IsSessionLog}
use Rattle.dp_session_laws.specs.Journals.{kept_events}
use Rattle.dp_crew.specs.Runs.{acts_of}
use Rattle.dp_crew.specs.Parts.{EachFrom, names_of, reports_of}
use Rattle.dp_crew.specs.Parts as crew
use Rattle.dp_serve.specs.declared.report.LinkReport.{LinkReport}
use Rattle.dp_link_run.specs.Links.{LinkState, has_store_fault}
use Rattle.dp_serve.specs.Works.{session_rules}

-- what contracts see of a wire: its links, if they are known, how often it has failed, and the
-- state of each link
pub record Seen (W R T : Type 0) : Type 0 where
  pub links : W → Option (Links R T)
  pub faults : W → ℕ
  pub link : R × T → LinkState

-- A worker's part: its wire as it was and as it is, the name of its seat, and the links that it
-- served. It has no seat if none could be made for it.
abbrev pub Part : Type 0 → Type 0 → Type 0 → Type 0
Part W R T = crew.Part W LinkReport Event ReplyOrMemory Past R T

module _ {W R T : Type 0} where
  -- what is seen of a wire beside the states of its links
  abbrev pub sight : Seen W R T → crew.Sight W R T
  sight see = record { links = see.links; faults = see.faults }

  -- the wire failed in this part, and it was noted
  abbrev pub HasFailed : Seen W R T → Bool → Part W R T → Type 0
  HasFailed see noted part = crew.HasFailed (sight see) noted part

  -- The part of the worker of this number, by the session that was left. Each link went as its
  -- report tells. It served `most` links or all that were to come, unless memory ran out or its
  -- wire failed.
  abbrev pub Fits : Seen W R T → Past → ℕ → Bool → Bool → ℕ → Part W R T → Type 0
  Fits see last most memory wire who part =
      crew.Fits (session_rules see.link) (sight see) last most memory wire who part

  -- its part fits, and the acts of its seat in the log are those of its links, in order and no
  -- others
  abbrev pub IsPart : Seen W R T → Past → List LogEntry → ℕ → Bool → Bool → ℕ → Part W R T → Type 0
  IsPart see last log most memory wire who part =
      crew.IsPart (session_rules see.link) (sight see) last log most memory wire who part

-- what serving left beside the wires
pub record Left : Type 0 where
  pub journal : List Event
  pub shut : List ShutAt
  pub known : Option (List Row)
  pub count : ℕ
  pub read_faults : ℕ
  pub reports : List LinkReport
  pub memory : Bool
  pub store : Bool
  pub wire : Bool

-- Serving a session over these wires: one legal log of the session, in which each act is of one
-- worker's part. The journal, the closings that were refused and the store are those that the log
-- leaves. The flags are raised only with their causes.
pub record Serves {W R T : Type 0} (see : Seen W R T) (start : Past) (most : ℕ) (old new : List W)
    (left : Left) : Type 0 where
  pub log : List LogEntry
  pub legal : IsSessionLog start log
  pub parts : List (Part W R T)
  pub before : map (λ part. part.wire) parts ≡ old
  pub after : map (λ part. part.now) parts ≡ new
  pub each : EachFrom (IsPart see (left_by start log) log most left.memory left.wire) 0 parts
  pub others : (act : LogEntry) → IsIn act log → IsIn act.by (names_of parts)
  pub names : AreDistinct (names_of parts)
  pub journal : left.journal ≡ start.journal ++ kept_events log
  pub shut : left.shut ≡ (left_by start log).shut
  pub known : left.known ≡ (left_by start log).known
  pub count : left.count ≡ (left_by start log).count
  pub read_faults : left.read_faults ≡ (left_by start log).read_faults
  pub reports : left.reports ≡ reports_of parts
  pub store : left.store ≡ list_any (λ part. has_store_fault (acts_of part.runs)) parts
  pub wire : left.wire ≡ true
      → (part : Part W R T) × IsIn part parts × HasFailed see left.wire part
