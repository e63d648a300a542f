-- Parts of serving a link.
use Rattle.std.specs.Prelude.{◌≡◌, ℕ, Bool, true, false, List, [], Option, None, Some}
use Rattle.std.specs.Io.KnownBytes.{IsAtEnd}
use Rattle.dp_split.specs.Stream.{Stream}
use Rattle.dp_epochs.specs.declared.event.Reply.TheVariants.{StoreFault}
use Rattle.dp_hall.specs.Calls.{JoinsInto}
use Rattle.dp_hall.specs.Laws.{Continues}
use Rattle.dp_epochs.specs.Past.{Past}
use Rattle.dp_session_laws.specs.Logs.{IsSessionLog}
use Rattle.dp_link.specs.declared.ends.Greeting.{Greeting}
use Rattle.dp_link.specs.declared.ends.UpEnd.{UpEnd}
use Rattle.dp_link.specs.declared.ends.UpEnd.TheVariants as up
use Rattle.dp_link.specs.declared.ends.DownEnd.{DownEnd}
use Rattle.dp_link.specs.Acts.{SeatView}
use Rattle.dp_session_laws.specs.Logs.{ReplyOrMemory, LogEntry}
use Rattle.dp_link.specs.declared.up.UpRun.{UpRun}
use Rattle.dp_link.specs.Saying.{AreSays, SaysAll, FaultMatchesUp}
use Rattle.dp_link.specs.Sending.{Sends, FaultMatchesDown, session_of}
use Rattle.dp_link_run.specs.declared.link.LinkEnd.{LinkEnd}
use Rattle.dp_link_run.specs.Links.{LinkState, LinkBy, ran_out}
use Rattle.dp_link_run.specs.Links.{is_failed, is_store_fault, has_store_fault}
use Rattle.dp_crew.specs.Runs.{WorksOn}

-- a link was served: its acts, and how it ended
pub record WasServed (past : Past) (v w : SeatView) (end : LinkEnd) (before after : LinkState)
    : Type 0 where
  pub acts : List LogEntry
  pub goes : WorksOn v acts w
  pub link : LinkBy past end.conn end.up end.down acts before after
  pub memory : end.memory ≡ ran_out end.up end.down acts
  pub store : end.store ≡ has_store_fault acts

-- a painter who was greeted spoke, from what the stream held on, and was sent a feed
pub record Talks (past : Past) (v w : SeatView) (greeting : Greeting) (stream : Stream)
    (end : LinkEnd) (before after : LinkState) : Type 0 where
  pub says : List LogEntry
  pub close : ReplyOrMemory
  pub goes : WorksOn v says w
  pub conn : end.conn ≡ Some greeting.conn
  pub are : AreSays before.left after.left stream greeting.conn end.up close says
  pub sends : Sends past greeting.conn before.held after.held end.down
  pub reads : FaultMatchesUp end.up before.read_faults after.read_faults
  pub writes : FaultMatchesDown end.down before.write_faults after.write_faults
  pub at_end : end.up ≡ up.End → IsAtEnd after.left
  pub memory : end.memory ≡ ran_out end.up end.down says
  pub store : end.store ≡ has_store_fault says

-- both pumps of a link ran, one on each of these two seats, which were then joined into one
pub record Pumps (start : Past) (first second joined : SeatView) (conn : ℕ) (stream : Stream)
    (before after : LinkState) (down : DownEnd) (run : UpRun) : Type 0 where
  pub one : SeatView
  pub two : SeatView
  pub legal : IsSessionLog start joined.seen
  pub waits : Continues second [] two
  pub joins : JoinsInto one two joined
  pub says : SaysAll first one before.left after.left stream conn run.end run.close
  pub sends : Sends (session_of start two) conn before.held after.held down
  pub reads : FaultMatchesUp run.end before.read_faults after.read_faults
  pub writes : FaultMatchesDown down before.write_faults after.write_faults
  pub at_end : run.end ≡ up.End → IsAtEnd after.left

-- the store failed in the last Say
abbrev pub is_store_end : UpEnd → Bool
is_store_end (up.Refused (StoreFault count)) = true
is_store_end other = false

-- memory ran out in the last act, if there was one
abbrev pub is_last_failed : Option ReplyOrMemory → Bool
is_last_failed None = false
is_last_failed (Some outcome) = is_failed outcome

-- the store failed in it
abbrev pub is_last_store_fault : Option ReplyOrMemory → Bool
is_last_store_fault None = false
is_last_store_fault (Some outcome) = is_store_fault outcome
