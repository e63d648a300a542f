-- What a client does with the session.
use Rattle.std.specs.Prelude.{ℕ, ◌+◌, Bool, true, false, ◌==◌, if◌then◌else◌}
use Rattle.std.specs.Prelude.{Option, None, Some, List, [], ◌∷◌, ◌++◌, length, slice_get}
use Rattle.dp_msg_meta.specs.declared.message.Control.TheVariants.{Disconnect, Ack}
use Rattle.dp_messages.specs.declared.message.Msg.{Msg}
use Rattle.dp_messages.specs.declared.message.Msg.TheVariants as msg
use Rattle.dp_messages.specs.declared.message.Entry.{Entry}
use Rattle.dp_messages.specs.Properties.{is_disconnect}
use Rattle.dp_client.specs.Client as client
use Rattle.dp_client.specs.declared.client.Taken.{Taken}
use Rattle.dp_epochs.specs.declared.event.Event.TheVariants as event
use Rattle.dp_epochs.specs.declared.event.Reply.{Reply}
use Rattle.dp_epochs.specs.declared.event.Reply.TheVariants as reply
use Rattle.dp_epochs.specs.State.{epoch_of}
use Rattle.dp_epochs.specs.Past.{Past, state_of, sure_answer, sure_step}
use Rattle.dp_schedule.specs.declared.action.Instruction.{Instruction}
use Rattle.dp_schedule.specs.declared.action.Instruction.TheVariants.{Say, Up, Take, Reset}
use Rattle.dp_schedule.specs.declared.action.Instruction.TheVariants.{Leave, Cut}
use Rattle.dp_showing.specs.Resets.{client_reset}
use Rattle.dp_schedule.specs.declared.report_line.ReportLine.{ReportLine}
use Rattle.dp_schedule.specs.declared.report_line.ReportLine.TheVariants as report
use Rattle.dp_sim.specs.declared.participant.LinkState.{LinkState}
use Rattle.dp_sim.specs.declared.participant.LinkState.TheVariants.{Connected, Leaving, Closed}

-- a client: its connection, what it has taken and said, the messages on their way up, and its link
pub record Participant : Type 0 where
  pub conn : ℕ
  pub state : client.State
  pub uplink : List Msg
  pub link : LinkState

-- the session's past, and one of its clients
pub record Exchange : Type 0 where
  pub past : Past
  pub participant : Participant

-- Which instructions a client does no more: one that is closed none, and one that is leaving says
-- nothing, resets nothing and doesn't leave again.
abbrev pub is_gone : LinkState → Instruction → Bool
is_gone Connected instruction = false
is_gone Leaving (Say m) = true
is_gone Leaving Up = false
is_gone Leaving Take = false
is_gone Leaving (Reset keeps) = true
is_gone Leaving Leave = true
is_gone Leaving Cut = false
is_gone Closed instruction = true

-- ---- lines of the report

-- of the answer to a message
abbrev pub said_line : Reply → ReportLine
said_line (reply.Placed epoch at) = report.Placed epoch at
said_line (reply.Filtered epoch at) = report.Filtered epoch at
said_line reply.Noted = report.Noted
said_line reply.Ignored = report.Ignored
said_line (reply.Opened conn user epoch at) = report.Ended
said_line reply.NameRefused = report.Ended
said_line reply.Full = report.Ended
said_line reply.Ended = report.Ended
said_line (reply.StoreFault count) = report.Ended

-- of the answer to a Close after a Disconnect
abbrev pub left_line : Reply → ReportLine
left_line (reply.Placed epoch at) = report.Left epoch at
left_line (reply.Opened conn user epoch at) = report.Ended
left_line (reply.Filtered epoch at) = report.Ended
left_line reply.Noted = report.Ended
left_line reply.Ignored = report.Ended
left_line reply.NameRefused = report.Ended
left_line reply.Full = report.Ended
left_line reply.Ended = report.Ended
left_line (reply.StoreFault count) = report.Ended

-- of the answer to a Close if the uplink is lost
abbrev pub cut_line : Reply → ReportLine
cut_line (reply.Placed epoch at) = report.Cut epoch at
cut_line (reply.Opened conn user epoch at) = report.Ended
cut_line (reply.Filtered epoch at) = report.Ended
cut_line reply.Noted = report.Ended
cut_line reply.Ignored = report.Ended
cut_line reply.NameRefused = report.Ended
cut_line reply.Full = report.Ended
cut_line reply.Ended = report.Ended
cut_line (reply.StoreFault count) = report.Ended

-- of an entry that is taken
abbrev pub took_line : Taken → ReportLine
took_line taken = report.Took taken.epoch taken.at

-- ---- the exchanges

-- the connection is closed, and so is the client
abbrev pub disconnected : Exchange → Exchange
disconnected t = record {
  past = sure_step t.past (event.Close t.participant.conn);
  participant = record t.participant { uplink = []; link = Closed };
}

-- the session takes this message of the client, and these are left on the uplink
abbrev pub heard : Exchange → Msg → List Msg → Exchange
heard t m rest = record {
  past = sure_step t.past (event.Say t.participant.conn m);
  participant = record t.participant { uplink = rest };
}

-- the session takes the next message of the uplink, if there is one; a Disconnect is followed by
-- the Close
abbrev pub uplink_sent : Exchange → List Msg → Exchange
uplink_sent t [] = t
uplink_sent t (m ∷ rest) = if is_disconnect m then disconnected (heard t m rest) else heard t m rest

abbrev pub up_line : Exchange → List Msg → ReportLine
up_line t [] = report.Empty
up_line t (m ∷ rest) =
    if is_disconnect m
    then left_line (sure_answer (heard t m rest).past (event.Close t.participant.conn))
    else said_line (sure_answer t.past (event.Say t.participant.conn m))

-- the entry that the client takes next, if there is one: the first of the live history if the
-- client is in another epoch, and else the one after those that it has taken
abbrev pub next_entry : Exchange → Option Entry
next_entry t =
    let s = state_of t.past in
    slice_get s.live (if t.participant.state.epoch == epoch_of s
    then length t.participant.state.taken else 0)

-- the acknowledgement of an epoch, if one is due
abbrev pub acks : Option ℕ → List Msg
acks None = []
acks (Some epoch) = msg.Control (Ack epoch) ∷ []

-- the client takes the entry, if there is one
abbrev pub took_next : Exchange → Option Entry → Exchange
took_next t None = t
took_next t (Some entry) = record t {
  participant = record t.participant {
    state = client.took t.participant.state entry;
    uplink = t.participant.uplink ++ acks (client.taken_of t.participant.state entry).ack;
  };
}

abbrev pub next_taken_line : Exchange → Option Entry → ReportLine
next_taken_line t None = report.Nothing
next_taken_line t (Some entry) = took_line (client.taken_of t.participant.state entry)

-- the client with messages that join its uplink
abbrev pub with_sent : Participant → List Msg → Participant
with_sent participant messages =
    record participant { uplink = participant.uplink ++ messages }

-- the exchange after an instruction that the client still does
abbrev pub done : Exchange → Instruction → Exchange
done t (Say m) = record t {
  participant = record t.participant {
    state = client.said t.participant.state m;
    uplink =
        t.participant.uplink ++ m ∷ [];
  };
}
done t Up = uplink_sent t t.participant.uplink
done t Take = took_next t (next_entry t)
done t (Reset keeps) =
    record t { participant = with_sent t.participant (client_reset keeps t.participant.state) }
done t Leave = record t {
  participant = record t.participant {
    uplink = t.participant.uplink ++ msg.Control (Disconnect 0) ∷ [];
    link = Leaving;
  };
}
done t Cut = disconnected t

-- what the report says of such an instruction
abbrev pub performed_line : Exchange → Instruction → ReportLine
performed_line t (Say m) = report.Said (length t.participant.state.fork + 1)
performed_line t Up = up_line t t.participant.uplink
performed_line t Take = next_taken_line t (next_entry t)
performed_line t (Reset keeps) = report.Sent (length (client_reset keeps t.participant.state))
performed_line t Leave = report.Leaving
performed_line t Cut = cut_line (sure_answer t.past (event.Close t.participant.conn))

-- the exchange after an instruction
abbrev pub exchanged : Exchange → Instruction → Exchange
exchanged t instruction = if is_gone t.participant.link instruction then t else done t instruction

-- what the report says of it
abbrev pub exchange_line : Exchange → Instruction → ReportLine
exchange_line t instruction = if is_gone t.participant.link instruction then report.Gone
    else performed_line t instruction
