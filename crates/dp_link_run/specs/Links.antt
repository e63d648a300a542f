-- One link of the server, by how it ended.
use Rattle.std.specs.Prelude.{◌≡◌, ℕ, ◌+◌, ◌||◌, Bool, true, false, List, ◌∷◌, length}
use Rattle.std.specs.Prelude.{Option, None, Some, Ok, Err}
use Rattle.std.specs.List.{list_any}
use Rattle.std.specs.Io.KnownBytes.{Appends, Consumes, IsAtEnd}
use Rattle.dp_split.specs.Stream.{Stream}
use Rattle.dp_messages.specs.Messages.{entry_bytes}
use Rattle.dp_epochs.specs.declared.event.Event.TheVariants.{Open}
use Rattle.dp_epochs.specs.declared.event.Reply.TheVariants.{StoreFault}
use Rattle.dp_epochs.specs.Past.{Past}
use Rattle.dp_link.specs.declared.ends.Greeting.{Greeting}
use Rattle.dp_link.specs.declared.ends.GreetEnd.{GreetEnd}
use Rattle.dp_link.specs.declared.ends.GreetEnd.TheVariants as greet
use Rattle.dp_link.specs.declared.ends.UpEnd.{UpEnd}
use Rattle.dp_link.specs.declared.ends.UpEnd.TheVariants as up
use Rattle.dp_link.specs.declared.ends.DownEnd.{DownEnd}
use Rattle.dp_link.specs.declared.ends.DownEnd.TheVariants as down
use Rattle.dp_link.specs.Acts.{IsAct}
use Rattle.dp_session_laws.specs.Logs.{ReplyOrMemory, LogEntry}
use Rattle.dp_link.specs.Answers.{welcome, opened_as}
use Rattle.dp_link.specs.Bytes.{BeginsWithHello}
use Rattle.dp_link.specs.Hello.{GreetsBy, FaultMatchesHello}
use Rattle.dp_link.specs.Saying.{AreSays, FaultMatchesUp}
use Rattle.dp_link.specs.Sending.{Sends, FaultMatchesDown}

-- What contracts see of a link: the bytes left to read and those that its peer took, if they are
-- known, and how often its source and its sink have failed.
pub record LinkState : Type 0 where
  pub left : Option (List ℕ)
  pub read_faults : ℕ
  pub held : Option (List ℕ)
  pub write_faults : ℕ

-- the state of a link that is a source and a sink, by what is seen of each
abbrev pub link_seen : {R T : Type 0} → (R → Option (List ℕ)) → (R → ℕ) → (T → Option (List ℕ))
    → (T → ℕ) → R × T → LinkState
link_seen left read_faults held write_faults link = record {
  left = left link.0;
  read_faults = read_faults link.0;
  held = held link.1;
  write_faults = write_faults link.1;
}

-- Nobody was greeted, for this reason, and these are the acts.
pub record IsGreetingRefused (end : GreetEnd) (acts : List LogEntry)
    (before after : LinkState) : Type 0 where
  pub read : List ℕ
  pub stream : Stream
  pub read_is : Consumes before.left after.left read
  pub by : GreetsBy (Err end) read stream acts before.held after.held
  pub fault :
      FaultMatchesHello {T = Greeting} (Err end) before.read_faults after.read_faults
      before.write_faults after.write_faults
  pub at_end : end ≡ greet.End → IsAtEnd after.left

-- A painter was greeted on this connection: these acts are its Open, its Says and its Close, and it
-- was sent the Welcome and a feed of this session.
pub record IsServed (past : Past) (conn : ℕ) (end : UpEnd) (down : DownEnd) (acts : List LogEntry)
    (before after : LinkState) : Type 0 where
  -- the Hello, and the bytes that were read for it
  pub name : List ℕ
  pub first : List ℕ
  pub stream : Stream
  pub unread : Option (List ℕ)
  pub read_is : Consumes before.left unread first
  pub hello : BeginsWithHello first name stream.held
  pub place : stream.at + length stream.held ≡ length first
  -- the Open
  pub opening : LogEntry
  pub greeting : Greeting
  pub conn_is : greeting.conn ≡ conn
  pub opened : IsAct opening (Open name false) (Ok (opened_as greeting))
  -- the Says and the Close
  pub says : List LogEntry
  pub close : ReplyOrMemory
  pub are : AreSays unread after.left stream conn end close says
  pub acts_are : acts ≡ opening ∷ says
  -- what the peer took
  pub taken : Option (List ℕ)
  pub welcomed : Appends before.held taken (entry_bytes (welcome greeting))
  pub sends : Sends past conn taken after.held down
  -- the causes
  pub reads : FaultMatchesUp end before.read_faults after.read_faults
  pub writes : FaultMatchesDown down before.write_faults after.write_faults
  pub at_end : end ≡ up.End → IsAtEnd after.left

-- what both ends of a report say if nobody was greeted
abbrev pub RefusedBy : UpEnd → DownEnd → List LogEntry → LinkState → LinkState → Type 0
RefusedBy (up.NotGreeted end) sent acts before after =
    (sent ≡ down.NotGreeted) × IsGreetingRefused end acts before after
RefusedBy other sent acts before after = ⊥

-- by the connection of a report, if there is one
abbrev pub LinkBy : Past → Option ℕ → UpEnd → DownEnd → List LogEntry → LinkState → LinkState
    → Type 0
LinkBy past None end down acts before after = RefusedBy end down acts before after
LinkBy past (Some conn) end down acts before after = IsServed past conn end down acts before after

-- ---- flags

-- memory ran out in the act
abbrev pub is_failed : ReplyOrMemory → Bool
is_failed (Ok answer) = false
is_failed (Err error) = true

-- the store failed in the act
abbrev pub is_store_fault : ReplyOrMemory → Bool
is_store_fault (Ok (StoreFault count)) = true
is_store_fault other = false

-- memory ran out in one of the acts
abbrev pub has_failed : List LogEntry → Bool
has_failed acts = list_any (λ act. is_failed act.outcome) acts

-- the store failed in one of the acts
abbrev pub has_store_fault : List LogEntry → Bool
has_store_fault acts = list_any (λ act. is_store_fault act.outcome) acts

-- a report tells that memory ran out while the painter spoke, or before
abbrev pub is_up_memory : UpEnd → Bool
is_up_memory up.Memory = true
is_up_memory (up.NotGreeted greet.Memory) = true
is_up_memory other = false

-- a report tells that memory ran out while the painter was written to
abbrev pub is_down_memory : DownEnd → Bool
is_down_memory down.Memory = true
is_down_memory other = false

-- a report tells that memory ran out, or it did in one of the acts
abbrev pub ran_out : UpEnd → DownEnd → List LogEntry → Bool
ran_out end down acts = is_up_memory end || is_down_memory down || has_failed acts
