-- A session and what its clients send, without their canvases.
use Rattle.std.specs.Prelude.{◌≡◌, ℕ, ◌-◌, List, [], ◌∷◌, ◌++◌, length, replicate, slice_set}
use Rattle.std.specs.List.{flat_map, fold}
use Rattle.std.specs.Option.{option_map_or}
use Rattle.dp_lists.specs.Numbered.{numbered}
use Rattle.dp_messages.specs.declared.message.Msg.{Msg}
use Rattle.dp_epochs.specs.declared.event.Event.TheVariants as event
use Rattle.dp_epochs.specs.declared.event.Answer.TheVariants.{Entries}
use Rattle.dp_epochs.specs.declared.event.Query.TheVariants.{Pull}
use Rattle.dp_epochs.specs.Past.{Past, state_of, sure_step}
use Rattle.dp_epochs.specs.Pull.{answered}
use Rattle.dp_schedule.specs.declared.action.Action.{Action}
use Rattle.dp_schedule.specs.declared.action.Action.TheVariants.{Join, Act}
use Rattle.dp_schedule.specs.declared.action.Instruction.{Instruction}
use Rattle.dp_schedule.specs.declared.action.Instruction.TheVariants.{Say, Up}
use Rattle.dp_sure_session.specs.FirstPast.{first_past}
use Rattle.dp_drill.specs.Schedule.{clients, drawn_actions}

-- a session's past, and the messages on their way from each client, in the order of their joins
pub record Flow : Type 0 where
  pub past : Past
  pub uplinks : List (List Msg)

-- before the first action
abbrev pub first_flow : Flow
first_flow = record { past = first_past; uplinks = [] }

-- the uplink of a client sends its first message, if it has one
abbrev pub sent : Flow → ℕ → List Msg → Flow
sent f client [] = f
sent f client (m ∷ rest) = record {
  past = sure_step f.past (event.Say client m);
  uplinks = slice_set f.uplinks (client - 1) rest;
}

-- What an instruction of the client of a number makes of it, whose uplink has these messages. A
-- take makes nothing, as does what a drill hasn't.
abbrev pub instructed : Flow → ℕ → Instruction → List Msg → Flow
instructed f client (Say m) uplink =
    record f { uplinks = slice_set f.uplinks (client - 1) (uplink ++ m ∷ []) }
instructed f client Up uplink = sent f client uplink
instructed f client other uplink = f

-- what an action makes of it; each user who asks to join becomes a client
unfoldable pub flow_after : Flow → Action → Flow
flow_after f (Join name registered) = record {
  past = sure_step f.past (event.Open name registered);
  uplinks = f.uplinks ++ [] ∷ [];
}
flow_after f (Act client instruction) =
    option_map_or (instructed f client instruction) (numbered f.uplinks client) f
flow_after f other = f

-- what actions make of the first one
abbrev pub flow_after_all : List Action → Flow
flow_after_all actions = fold flow_after first_flow actions

-- how many messages wait on the uplink of a client
abbrev pub waiting : Flow → ℕ → ℕ
waiting f client = option_map_or (λ uplink. length uplink) (numbered f.uplinks client) 0

-- each client's uplink sends all that it has
abbrev pub last_sends : Flow → List Action
last_sends f = flat_map (λ client. replicate (waiting f client) (Act client Up)) clients

-- the first client gets the whole live history at once
abbrev pub GetsHistory : Past → Type 0
GetsHistory past = answered past (Pull 1 0 0 4294967295) ≡ Entries 0 0 (state_of past).live

-- the flow of a drill, once all is sent
abbrev pub drill_flow : ℕ → ℕ → Flow
drill_flow seed count =
    let some = flow_after_all (drawn_actions seed count) in fold flow_after some (last_sends some)
