-- The moves of a client, of which its instructions are made.
use Rattle.std.specs.Prelude.{◌≡◌, Bool, true, false, if◌then◌else◌, Option, None, Some, IfSome}
use Rattle.std.specs.Prelude.{List, [], ◌∷◌, ◌++◌, ⊤}
use Rattle.std.specs.Option.{option_map_or}
use Rattle.dp_msg_meta.specs.declared.message.Control.TheVariants.{Disconnect}
use Rattle.dp_messages.specs.declared.message.Msg.{Msg}
use Rattle.dp_messages.specs.declared.message.Msg.TheVariants as msg
use Rattle.dp_messages.specs.declared.message.Entry.{Entry}
use Rattle.dp_messages.specs.Properties.{is_disconnect}
use Rattle.dp_epochs.specs.declared.event.Event.TheVariants as event
use Rattle.dp_epochs.specs.Past.{Past, sure_step}
use Rattle.dp_schedule.specs.declared.action.Instruction.{Instruction}
use Rattle.dp_schedule.specs.declared.action.Instruction.TheVariants.{Say, Up, Take, Reset}
use Rattle.dp_schedule.specs.declared.action.Instruction.TheVariants.{Leave, Cut}
use Rattle.dp_sim.specs.declared.participant.LinkState.{LinkState}
use Rattle.dp_sim.specs.declared.participant.LinkState.TheVariants.{Connected, Leaving, Closed}
use Rattle.dp_sim.specs.Exchanges.{Participant, Exchange, is_gone, heard, next_entry, took_next}
use Rattle.dp_sim.specs.Exchanges.{exchanged}
use Rattle.dp_showing.specs.Resets.{client_reset}
use Rattle.dp_sim.specs.Invariant.{is_closed}

-- What joins an uplink: a message that the client says, a reset to what it has taken, one that
-- keeps or not, or the Disconnect with which it leaves.
pub data Queued : Type 0 where
  Saying : Msg → Queued
  Resetting : Bool → Queued
  Parting : Queued

-- A move of a client. It may be none. Or messages join its uplink. Or the session takes the first
-- of them, and the others are left. Or the client takes the next entry. Or its connection is
-- closed, after the session took a Disconnect of it or without one.
pub data Move : Type 0 where
  Rests : Move
  Queues : Queued → Move
  SendsFirst : Msg → List Msg → Move
  TakesNext : Entry → Move
  Closes : Option Msg → Move

-- ---- what a move makes of an exchange

-- the messages that join the uplink
abbrev pub queued_messages : Participant → Queued → List Msg
queued_messages participant (Saying m) = m ∷ []
queued_messages participant (Resetting keeps) = client_reset keeps participant.state
queued_messages participant Parting = msg.Control (Disconnect 0) ∷ []

-- those of them that join the fork
abbrev pub forked_messages : Queued → List Msg
forked_messages (Saying m) = m ∷ []
forked_messages other = []

-- the link then
abbrev pub link_after : Queued → LinkState
link_after Parting = Leaving
link_after other = Connected

-- the client after that
abbrev pub with_queued : Participant → Queued → Participant
with_queued participant queued = record participant {
  state = record participant.state {
    fork = participant.state.fork ++ forked_messages queued;
  };
  uplink = participant.uplink ++ queued_messages participant queued;
  link = link_after queued;
}

-- the message that the session takes by a move
abbrev pub message_sent : Move → Option Msg
message_sent (SendsFirst m rest) = Some m
message_sent (Closes last) = last
message_sent other = None

-- the past after the session took a message of the client, if there is one
abbrev pub past_with : Exchange → Option Msg → Past
past_with t None = t.past
past_with t (Some m) = sure_step t.past (event.Say t.participant.conn m)

-- the exchange after a move
abbrev pub after_move : Exchange → Move → Exchange
after_move t Rests = t
after_move t (Queues queued) = record t { participant = with_queued t.participant queued }
after_move t (SendsFirst m rest) = heard t m rest
after_move t (TakesNext entry) = took_next t (Some entry)
after_move t (Closes last) = record {
  past = sure_step (past_with t last) (event.Close t.participant.conn);
  participant = record t.participant { uplink = []; link = Closed };
}

-- ---- the move that an instruction is

-- the move of sending the first message of an uplink; a Disconnect closes the connection
abbrev pub first_sent : List Msg → Move
first_sent [] = Rests
first_sent (m ∷ rest) = if is_disconnect m then Closes (Some m) else SendsFirst m rest

-- the move that an instruction is, which the client still does
abbrev pub done_move : Exchange → Instruction → Move
done_move t (Say m) = Queues (Saying m)
done_move t Up = first_sent t.participant.uplink
done_move t Take = option_map_or TakesNext (next_entry t) Rests
done_move t (Reset keeps) = Queues (Resetting keeps)
done_move t Leave = Queues Parting
done_move t Cut = Closes None

-- the move that an instruction is
abbrev pub instruction_move : Exchange → Instruction → Move
instruction_move t instruction =
    if is_gone t.participant.link instruction then Rests else done_move t instruction

-- ---- when it may be made

-- that joins the uplink by the instruction
abbrev pub IsQueuedBy : Instruction → Queued → Type 0
IsQueuedBy instruction (Saying m) = instruction ≡ Say m
IsQueuedBy instruction (Resetting keeps) = instruction ≡ Reset keeps
IsQueuedBy instruction Parting = instruction ≡ Leave

-- A move of the instruction that may be made. Only a connected client queues, and only one that
-- isn't closed sends, takes or closes. What is sent is the first message of the uplink, and what is
-- taken the next entry.
abbrev pub IsMoveBy : Exchange → Instruction → Move → Type 0
IsMoveBy t instruction Rests = ⊤
IsMoveBy t instruction (Queues queued) =
    IsQueuedBy instruction queued × (t.participant.link ≡ Connected)
IsMoveBy t instruction (SendsFirst m rest) =
    (is_closed t.participant.link ≡ false)
    × (t.participant.uplink ≡ m ∷ rest)
    × (is_disconnect m ≡ false)
IsMoveBy t instruction (TakesNext entry) =
    (is_closed t.participant.link ≡ false) × (next_entry t ≡ Some entry)
IsMoveBy t instruction (Closes last) =
    (is_closed t.participant.link ≡ false)
    × IfSome last (λ m.
    (rest : List Msg) × (t.participant.uplink ≡ m ∷ rest) × (is_disconnect m ≡ true))

-- the move may be made by the instruction, and leads there
pub record Makes (t : Exchange) (instruction : Instruction) (move : Move) (after : Exchange)
    : Type 0 where
  pub made : after ≡ after_move t move
  pub may : IsMoveBy t instruction move

-- what a client does by an instruction is its move
abbrev pub InstructionsAreMoves : Type 0
InstructionsAreMoves =
    (t : Exchange) (instruction : Instruction)
    → Makes t instruction (instruction_move t instruction) (exchanged t instruction)
