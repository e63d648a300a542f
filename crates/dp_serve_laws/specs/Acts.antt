-- Which acts of a log, and which events of a journal, are of a connection.
use Rattle.std.specs.Prelude.{◌≡◌, ℕ, Bool, false, ◌==◌, if◌then◌else◌, List, [], ◌∷◌, ◌++◌, Ok}
use Rattle.std.specs.Prelude.{filter, Option, IfSome}
use Rattle.dp_keeper.specs.declared.row.Row.{Row}
use Rattle.dp_epochs.specs.declared.event.Event.{Event}
use Rattle.dp_epochs.specs.declared.event.Event.TheVariants.{Open, Say, Close}
use Rattle.dp_epochs.specs.declared.event.Reply.{Reply}
use Rattle.dp_epochs.specs.declared.event.Reply.TheVariants.{Opened}
use Rattle.dp_epochs.specs.declared.event.ShutAt.{ShutAt}
use Rattle.dp_epochs.specs.Past.{Past, state_after}
use Rattle.dp_session_laws.specs.Logs.{ReplyOrMemory, LogEntry}
use Rattle.dp_session_laws.specs.Journals.{kept_events}
use Rattle.dp_serve.specs.declared.report.LinkReport.{LinkReport}
use Rattle.dp_link_run.specs.Links.{LinkState}
use Rattle.dp_serve.specs.Works.{LinkRun, IsRun}

-- An event of which that came is of the connection: it is a Say or a Close that names it, or the
-- Open that gave it out.
abbrev pub is_of : ℕ → Event → ReplyOrMemory → Bool
is_of conn (Open name registered) (Ok (Opened given user epoch at)) = given == conn
is_of conn (Open name registered) other = false
is_of conn (Say by m) outcome = by == conn
is_of conn (Close by) outcome = by == conn

-- an act is of the connection, by its event and its outcome
abbrev pub is_about : ℕ → LogEntry → Bool
is_about conn act = is_of conn act.event act.outcome

-- the acts of a log that are of the connection, in order
abbrev pub acts_about : ℕ → List LogEntry → List LogEntry
acts_about conn log = filter (is_about conn) log

-- of events with the replies to them, those of the connection, in order
abbrev pub events_about : ℕ → List Event → List Reply → List Event
events_about conn [] replies = []
events_about conn (event ∷ events) [] = []
events_about conn (event ∷ events) (reply ∷ replies) =
    if is_of conn event (Ok reply)
    then event ∷ events_about conn events replies
    else events_about conn events replies

-- The events of a journal that are of the connection, in order. With the closings that were
-- refused, the journal tells which connection each Open gave out.
abbrev pub events_of : ℕ → List Event → List ShutAt → List Event
events_of conn journal shut = events_about conn journal (state_after journal shut).answers

-- A link went as its report tells, by a session that left this journal and these closings. The
-- journal's events of the connection are the ones kept of the link's acts, in order. Before them
-- there is none, unless the rows of the session's store weren't known.
pub record KeepsActs {R T : Type 0} (see : R × T → LinkState) (known : Option (List Row))
    (report : LinkReport) (conn : ℕ) (journal : List Event) (shut : List ShutAt) : Type 0 where
  pub last : Past
  pub journal_is : last.journal ≡ journal
  pub shut_is : last.shut ≡ shut
  pub run : LinkRun R T
  pub report_is : run.report ≡ report
  pub went : IsRun see last report.worker run
  pub before : List Event
  pub events : events_of conn journal shut ≡ before ++ kept_events run.acts
  pub none : IfSome known (λ rows. before ≡ [])
