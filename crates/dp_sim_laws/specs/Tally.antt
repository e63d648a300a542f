-- How many of its sends a client has seen answered.
use Rattle.std.specs.Prelude.{◌≢◌, ℕ, ◌+◌, if◌then◌else◌, is_some, Option, None, Some}
use Rattle.std.specs.Prelude.{List, [], ◌∷◌, ◌++◌}
use Rattle.std.specs.List.{All}
use Rattle.std.specs.Option.{option_map_or}
use Rattle.dp_messages.specs.declared.message.Msg.{Msg}
use Rattle.dp_client.specs.Client.{State, Step, Said, Took, after_step, is_own_answer, taken_of}
use Rattle.dp_epochs.specs.declared.event.Event.TheVariants as event
use Rattle.dp_epochs.specs.declared.event.Reply.{Reply}
use Rattle.dp_epochs.specs.declared.event.Reply.TheVariants.{Ended}
use Rattle.dp_epochs.specs.Past.{sure_answer}
use Rattle.dp_schedule.specs.declared.action.Instruction.{Instruction}
use Rattle.dp_schedule.specs.declared.action.Action.{Action}
use Rattle.dp_schedule.specs.declared.action.Action.TheVariants.{Join, Act, Show}
use Rattle.dp_sim.specs.Exchanges.{Exchange}
use Rattle.dp_sim.specs.Moves.{Move, Closes, message_sent, past_with, instruction_move}
use Rattle.dp_sim.specs.World.{World, first_world, participant_of}
use Rattle.dp_sim.specs.Report.{along}
use Rattle.dp_sim.specs.Invariant.{SaysNoControl}
use Rattle.dp_sim_laws.specs.OwnSteps.{exchange_of, welcome_of}

-- what was said since the Welcome, or since the last mark that was acknowledged, and how many own
-- answers were taken since then
pub record Tally : Type 0 where
  pub sends : List Msg
  pub answers : ℕ

abbrev pub no_sends : Tally
no_sends = record { sends = []; answers = 0 }

-- the tally after a step of a client
abbrev pub tally_step : State → Tally → Step → Tally
tally_step c t (Said m) = record t { sends = t.sends ++ m ∷ [] }
tally_step c t (Took entry) =
    if is_some (taken_of c entry).ack then no_sends
    else if is_own_answer c entry then record t { answers = t.answers + 1 } else t

-- the tally after steps
abbrev pub tally_from : State → Tally → List Step → Tally
tally_from c t [] = t
tally_from c t (step ∷ steps) = tally_from (after_step c step) (tally_step c t step) steps

-- the tally of a client's own steps
abbrev pub tally_of : State → List Step → Tally
tally_of c steps = tally_from (welcome_of c) no_sends steps

-- ---- schedules in which the session never ends

-- the reply to a message of the client, if there is one
abbrev pub said_reply : Exchange → Option Msg → List Reply
said_reply t None = []
said_reply t (Some m) = sure_answer t.past (event.Say t.participant.conn m) ∷ []

-- the replies to the events of a move
abbrev pub move_replies : Exchange → Move → List Reply
move_replies t (Closes last) =
    said_reply t last ++ sure_answer (past_with t last) (event.Close t.participant.conn) ∷ []
move_replies t move = said_reply t (message_sent move)

-- the replies to the events of an instruction of a client
abbrev pub exchange_replies : Exchange → Instruction → List Reply
exchange_replies t instruction = move_replies t (instruction_move t instruction)

-- the replies to the events of an action
abbrev pub replies : World → Action → List Reply
replies w (Join name registered) = sure_answer w.past (event.Open name registered) ∷ []
replies w (Act client instruction) =
    option_map_or (λ participant. exchange_replies (exchange_of w participant) instruction)
    (participant_of w client) []
replies w (Show client kind) = []

-- a schedule that says no control message, and in which no event was answered Ended
pub record IsUnended (actions : List Action) : Type 0 where
  pub said : All SaysNoControl actions
  pub replies : All (λ reply. reply ≢ Ended) (along replies first_world actions)
