-- Lines at which the session never ends, and the unanswered sends of a client after them.
use Rattle.std.specs.Prelude.{◌≡◌, ◌≢◌, ◌≤◌, ℕ, List, drop, length, IfSome}
use Rattle.std.specs.List.{All}
use Rattle.dp_lines.specs.declared.line.Line.{Line}
use Rattle.dp_schedule.specs.declared.action.Action.{Action}
use Rattle.dp_epochs.specs.declared.event.Reply.TheVariants.{Ended}
use Rattle.dp_sim.specs.Report.{along}
use Rattle.dp_sim.specs.Exchanges.{Participant}
use Rattle.dp_sim.specs.World.{first_world, participant_of, world_after}
use Rattle.dp_sim_laws.specs.OwnSteps.{own_steps}
use Rattle.dp_sim_laws.specs.Tally.{Tally, replies, tally_of}
use Rattle.dp_world_lines.specs.Schedule.{AskFor}

-- the lines ask for these actions, and no event of them was answered Ended
pub record AskUnended (lines : List Line) (actions : List Action) : Type 0 where
  pub asked : AskFor lines actions
  pub replies : All (λ reply. reply ≢ Ended) (along replies first_world actions)

-- the sends of a client since its Welcome or its last mark of a reset, and how many own answers it
-- has taken since
abbrev pub sends_of : List Action → ℕ → Participant → Tally
sends_of actions number participant = tally_of participant.state (own_steps number actions)

-- the fork of the client is its sends without the first n, n the number of own answers that it has
-- taken
abbrev pub IsForkPlain : Tally → Participant → Type 0
IsForkPlain tally participant =
    (tally.answers ≤ length tally.sends)
    × (participant.state.fork ≡ drop tally.answers tally.sends)

-- so it is of the client of this number after these actions, if there is one
abbrev pub HasPlainFork : List Action → ℕ → Type 0
HasPlainFork actions number =
    IfSome (participant_of (world_after actions) number)
    (λ participant. IsForkPlain (sends_of actions number participant) participant)
