-- What is true of every world.
use Rattle.std.specs.Prelude.{◌≡◌, ℕ, ◌<◌, ◌≤◌, Bool, true, false, is_some, MatchBool, IfSome}
use Rattle.std.specs.Prelude.{None, [], length, take, ⊤}
use Rattle.dp_messages.specs.Messages.{kind_of}
use Rattle.dp_epochs.specs.Rows.{event_limit}
use Rattle.dp_epochs.specs.State.{State, open_connection, epoch_of, history_of}
use Rattle.dp_epochs.specs.Past.{state_of}
use Rattle.dp_epochs.specs.Laws.{ShutBefore}
use Rattle.dp_schedule.specs.declared.action.Action.{Action}
use Rattle.dp_schedule.specs.declared.action.Action.TheVariants.{Join, Act, Show}
use Rattle.dp_schedule.specs.declared.action.Instruction.{Instruction}
use Rattle.dp_schedule.specs.declared.action.Instruction.TheVariants.{Say, Up, Take, Reset}
use Rattle.dp_schedule.specs.declared.action.Instruction.TheVariants.{Leave, Cut}
use Rattle.dp_sim.specs.declared.participant.LinkState.{LinkState}
use Rattle.dp_sim.specs.declared.participant.LinkState.TheVariants.{Connected, Leaving, Closed}
use Rattle.dp_sim.specs.Exchanges.{Participant}
use Rattle.dp_sim.specs.World.{World, participant_of}

-- what is said is no control message
abbrev pub IsSayable : Instruction → Type 0
IsSayable (Say m) = 32 ≤ kind_of m
IsSayable Up = ⊤
IsSayable Take = ⊤
IsSayable (Reset keeps) = ⊤
IsSayable Leave = ⊤
IsSayable Cut = ⊤

-- what the action has a client say is no control message
abbrev pub SaysNoControl : Action → Type 0
SaysNoControl (Join name registered) = ⊤
SaysNoControl (Act client instruction) = IsSayable instruction
SaysNoControl (Show client kind) = ⊤

-- the client is closed
abbrev pub is_closed : LinkState → Bool
is_closed Connected = false
is_closed Leaving = false
is_closed Closed = true

-- The client of a number. Its connection has the same number, and is open unless the client is
-- closed. It has taken a prefix of the history of its epoch, which is that of its join or a later
-- one.
pub record IsParticipant (s : State) (number : ℕ) (participant : Participant) : Type 0 where
  pub conn : participant.conn ≡ number
  pub running : MatchBool (is_closed participant.link) ⊤
      (is_some (open_connection s number) ≡ true)
  pub began : participant.state.joined_epoch ≤ participant.state.epoch
  pub known : participant.state.epoch ≤ epoch_of s
  pub few : length participant.state.taken ≤ length (history_of s participant.state.epoch)
  pub prefix : participant.state.taken
      ≡ take (length participant.state.taken) (history_of s participant.state.epoch)
  pub entered : participant.state.joined_epoch < participant.state.epoch
      → 0 < length participant.state.taken

-- the world is one that a schedule leads to, as far as its calls need it: no store failed and no
-- connection is quiet, and each connection is a client's
pub record IsWorld (w : World) : Type 0 where
  pub first_fault : w.past.first_fault ≡ None
  pub quiet : w.past.quiet ≡ []
  pub before : ShutBefore w.past
  pub events : length w.past.journal ≤ event_limit
  pub connections : length (state_of w.past).connections ≡ length w.participants
  pub participants : (number : ℕ) → IfSome (participant_of w number)
      (IsParticipant (state_of w.past) number)
