-- What the calls of a client need.
use Rattle.std.specs.Prelude.{◌≡◌, ◌<◌, ◌-◌, ◌^◌, true, is_some, MatchBool, None, [], ◌++◌, length, ⊤}
use Rattle.dp_messages.specs.declared.message.Entry.{Entry}
use Rattle.dp_client.specs.Client as client
use Rattle.dp_epochs.specs.State.{open_connection}
use Rattle.dp_epochs.specs.Past.{Past, state_of}
use Rattle.dp_sim.specs.Exchanges.{Participant, Exchange, acks}
use Rattle.dp_sim.specs.Invariant.{is_closed}

-- a session's past, and one of its clients
abbrev pub exchange : Past → Participant → Exchange
exchange past participant = record { past = past; participant = participant }

-- the client with the entry taken
abbrev pub took_entry : Participant → Entry → Participant
took_entry participant entry = record participant {
  state = client.took participant.state entry;
  uplink = participant.uplink ++ acks (client.taken_of participant.state entry).ack;
}

-- the client can take the entry that comes next: its connection is open, and an index is left
pub record CanTake (past : Past) (participant : Participant) : Type 0 where
  pub quiet : past.quiet ≡ []
  pub running : is_some (open_connection (state_of past) participant.conn) ≡ true
  pub few : length participant.state.taken < 2 ^ 32 - 1

-- the client can do what it does: no store failed, and it can take unless it is closed
pub record CanAct (past : Past) (participant : Participant) : Type 0 where
  pub first_fault : past.first_fault ≡ None
  pub take : MatchBool (is_closed participant.link) ⊤ (CanTake past participant)
