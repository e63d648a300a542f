-- What a schedule may draw, on the canvases of its clients.
use Rattle.std.specs.Prelude.{if◌then◌else◌, Option, None, Some, List, []}
use Rattle.std.specs.Option.{option_map_or}
use Rattle.dp_client.specs.Due.{canvas_due, said_due}
use Rattle.dp_messages.specs.declared.message.Entry.{Entry}
use Rattle.dp_msg_draw.specs.declared.draw.Draw.{Draw}
use Rattle.dp_schedule.specs.declared.action.Action.{Action}
use Rattle.dp_schedule.specs.declared.action.Action.TheVariants.{Join, Act, Show}
use Rattle.dp_schedule.specs.declared.action.Instruction.{Instruction}
use Rattle.dp_schedule.specs.declared.action.Instruction.TheVariants.{Say, Up, Take, Reset}
use Rattle.dp_schedule.specs.declared.action.Instruction.TheVariants.{Leave, Cut}
use Rattle.dp_sim.specs.Exchanges.{Exchange, is_gone, next_entry}
use Rattle.dp_sim.specs.Report.{along}
use Rattle.dp_sim.specs.World.{World, first_world, participant_of}

-- what a client may draw that takes the entry, if there is one
abbrev pub next_due : Exchange → Option Entry → List Draw
next_due t None = []
next_due t (Some entry) = canvas_due t.participant.state entry

-- what an instruction may draw that the client still does: a message that is said its command, and
-- an entry that is taken what it is due on both canvases
abbrev pub performed_due : Exchange → Instruction → List Draw
performed_due t (Say m) = said_due m
performed_due t Up = []
performed_due t Take = next_due t (next_entry t)
performed_due t (Reset keeps) = []
performed_due t Leave = []
performed_due t Cut = []

-- what an instruction may draw
abbrev pub exchange_due : Exchange → Instruction → List Draw
exchange_due t instruction = if is_gone t.participant.link instruction then []
    else performed_due t instruction

-- what an action may draw, from the world before it; a canvas that is shown isn't drawn
abbrev pub action_due : World → Action → List Draw
action_due w (Join name registered) = []
action_due w (Act number instruction) =
    option_map_or (λ participant.
    exchange_due (record { past = w.past; participant = participant }) instruction)
    (participant_of w number) []
action_due w (Show number kind) = []

-- what a schedule may draw, line after line
abbrev pub schedule_due : List Action → List Draw
schedule_due actions = along action_due first_world actions
