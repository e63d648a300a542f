-- A client's own steps along a schedule: what it said and took since its Welcome.
use Rattle.std.specs.Prelude.{◌≡◌, ℕ, ◌==◌, if◌then◌else◌, Option, None, List, [], ◌∷◌, map}
use Rattle.std.specs.Option.{option_map_or}
use Rattle.dp_messages.specs.declared.message.Entry.{Entry}
use Rattle.dp_client.specs.Client.{State, Step, Said, Took, welcomed, after_steps}
use Rattle.dp_schedule.specs.declared.action.Instruction.{Instruction}
use Rattle.dp_schedule.specs.declared.action.Instruction.TheVariants.{Take}
use Rattle.dp_schedule.specs.declared.action.Action.{Action}
use Rattle.dp_schedule.specs.declared.action.Action.TheVariants.{Join, Act, Show}
use Rattle.dp_sim.specs.Exchanges.{Participant, Exchange, is_gone, next_entry}
use Rattle.dp_sim.specs.Moves.{Move, Queues, TakesNext, forked_messages, instruction_move}
use Rattle.dp_sim.specs.World.{World, first_world, participant_of}
use Rattle.dp_sim.specs.Report.{along}

-- the client's exchange in a world
abbrev pub exchange_of : World → Participant → Exchange
exchange_of w participant = record { past = w.past; participant = participant }

-- the entry that the client takes next, if it still takes and there is one
abbrev pub next_of : World → Participant → Option Entry
next_of w participant = if is_gone participant.link Take then None
    else next_entry (exchange_of w participant)

-- the steps that a move is
abbrev pub steps_of_move : Move → List Step
steps_of_move (Queues queued) = map Said (forked_messages queued)
steps_of_move (TakesNext entry) = Took entry ∷ []
steps_of_move other = []

-- the steps that an instruction of a client is
abbrev pub steps_of_exchange : Exchange → Instruction → List Step
steps_of_exchange t instruction = steps_of_move (instruction_move t instruction)

-- the steps that an action is of the client of a number
abbrev pub own_step : ℕ → World → Action → List Step
own_step number w (Act client instruction) =
    if client == number
    then option_map_or (λ participant. steps_of_exchange (exchange_of w participant) instruction)
    (participant_of w client) []
    else []
own_step number w (Join name registered) = []
own_step number w (Show client kind) = []

-- the own steps of the client of a number, in order
abbrev pub own_steps : ℕ → List Action → List Step
own_steps number actions = along (own_step number) first_world actions

-- the state of a client that was welcomed as this one was
abbrev pub welcome_of : State → State
welcome_of c = welcomed c.user c.joined_epoch c.joined_at

-- the client is where these steps lead from its Welcome
abbrev pub GoesBy : State → List Step → Type 0
GoesBy c steps = c ≡ after_steps (welcome_of c) steps
