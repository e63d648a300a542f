-- The world of a schedule, and what its lines make of it.
use Rattle.std.specs.Prelude.{ℕ, ◌+◌, ◌-◌, Bool}
use Rattle.std.specs.Prelude.{Option, List, [], ◌∷◌, ◌++◌, length, slice_set}
use Rattle.std.specs.List.{fold}
use Rattle.std.specs.Option.{option_map_or}
use Rattle.dp_lists.specs.Numbered.{numbered}
use Rattle.dp_client.specs.Client as client
use Rattle.dp_epochs.specs.declared.event.Event.TheVariants.{Open}
use Rattle.dp_epochs.specs.declared.event.Reply.{Reply}
use Rattle.dp_epochs.specs.declared.event.Reply.TheVariants as reply
use Rattle.dp_epochs.specs.Past.{Past, sure_answer, sure_step}
use Rattle.dp_schedule.specs.declared.action.Instruction.{Instruction}
use Rattle.dp_schedule.specs.declared.action.Action.{Action}
use Rattle.dp_schedule.specs.declared.action.Action.TheVariants.{Join, Act, Show}
use Rattle.dp_schedule.specs.declared.report_line.ReportLine.{ReportLine}
use Rattle.dp_schedule.specs.declared.report_line.ReportLine.TheVariants as report
use Rattle.dp_sim.specs.declared.participant.LinkState.TheVariants.{Connected}
use Rattle.dp_sure_session.specs.FirstPast.{first_past}
use Rattle.dp_sim.specs.Exchanges.{Participant, Exchange, exchanged, exchange_line}

-- the session's past, and its clients in the order of their joins, numbered from 1
pub record World : Type 0 where
  pub past : Past
  pub participants : List Participant

-- the world before the first line
abbrev pub first_world : World
first_world = record { past = first_past; participants = [] }

-- how many clients there are
abbrev pub length_of : World → ℕ
length_of w = length w.participants

-- the client of a number, if there is one
abbrev pub participant_of : World → ℕ → Option Participant
participant_of w number = numbered w.participants number

-- ---- joining

-- a client that has joined
abbrev pub new_participant : ℕ → ℕ → ℕ → ℕ → Participant
new_participant conn user epoch at = record {
  conn = conn;
  state = client.welcomed user epoch at;
  uplink = [];
  link = Connected;
}

-- the clients with the one that the answer to an Open makes, if it makes one
abbrev pub with_joined : List Participant → Reply → List Participant
with_joined participants (reply.Opened conn user epoch at) = participants
    ++ new_participant conn user epoch at ∷ []
with_joined participants other = participants

-- the world after a user asked to join
abbrev pub joined : World → Bool → List ℕ → World
joined w registered name = record {
  past = sure_step w.past (Open name registered);
  participants = with_joined w.participants (sure_answer w.past (Open name registered));
}

-- what the report says of the answer, if there were that many clients
abbrev pub join_line : ℕ → Reply → ReportLine
join_line clients (reply.Opened conn user epoch at) = report.Joined (clients + 1) user epoch at
join_line clients reply.Full = report.Full
join_line clients reply.NameRefused = report.NameRefused
join_line clients (reply.Placed epoch at) = report.Ended
join_line clients (reply.Filtered epoch at) = report.Ended
join_line clients reply.Noted = report.Ended
join_line clients reply.Ignored = report.Ended
join_line clients reply.Ended = report.Ended
join_line clients (reply.StoreFault count) = report.Ended

-- ---- instructions

-- what the report says of an instruction of a client
abbrev pub acted_line : Past → Participant → Instruction → ReportLine
acted_line past participant instruction = exchange_line (record
    { past = past; participant = participant }) instruction

-- the world after the exchange of the client of a number
abbrev pub with_exchange : World → ℕ → Exchange → World
with_exchange w number t =
    record { past = t.past; participants = slice_set w.participants (number - 1) t.participant }

-- the world after an instruction of the client of a number
abbrev pub acted : World → ℕ → Instruction → World
acted w number instruction =
    option_map_or (λ participant. with_exchange w number
    (exchanged (record { past = w.past; participant = participant }) instruction))
    (participant_of w number) w

-- ---- lines

-- the world after an action; a line that shows a canvas leaves it
abbrev pub after : World → Action → World
after w (Join name registered) = joined w registered name
after w (Act number instruction) = acted w number instruction
after w (Show number kind) = w

-- the world after a schedule
abbrev pub world_after : List Action → World
world_after actions = fold after first_world actions
