-- The report of a schedule: what each line prints.
use Rattle.std.specs.Prelude.{ℕ, List, [], ◌∷◌, ◌++◌}
use Rattle.std.specs.Option.{option_map_or}
use Rattle.dp_showing.specs.declared.showing.Shown.{Shown}
use Rattle.dp_showing.specs.declared.showing.Shown.TheVariants as shown
use Rattle.dp_showing.specs.Showing.{shown_text}
use Rattle.dp_epochs.specs.declared.event.Event.TheVariants.{Open}
use Rattle.dp_epochs.specs.Past.{sure_answer}
use Rattle.dp_schedule.specs.declared.action.CanvasKind.{CanvasKind}
use Rattle.dp_schedule.specs.declared.action.CanvasKind.TheVariants.{View, Confirmed}
use Rattle.dp_schedule.specs.declared.action.CanvasKind.TheVariants.{Snapshot, Recording}
use Rattle.dp_schedule.specs.declared.action.Action.{Action}
use Rattle.dp_schedule.specs.declared.action.Action.TheVariants.{Join, Act, Show}
use Rattle.dp_schedule.specs.ReportText.{text_of}
use Rattle.dp_sim.specs.World.{World, first_world, after, length_of, participant_of, join_line}
use Rattle.dp_sim.specs.World.{acted_line}

-- what is printed of a client, as it is shown
abbrev pub shown_of : CanvasKind → Shown
shown_of View = shown.View
shown_of Confirmed = shown.Confirmed
shown_of Snapshot = shown.Snapshot
shown_of Recording = shown.Recording

-- what an action prints, from the world before it
abbrev pub printed : World → Action → List ℕ
printed w (Join name registered) =
    text_of (join_line (length_of w) (sure_answer w.past (Open name registered)))
printed w (Act number instruction) =
    option_map_or (λ participant. text_of (acted_line w.past participant instruction))
    (participant_of w number) []
printed w (Show number kind) =
    option_map_or (λ participant. shown_text (shown_of kind) participant.state)
    (participant_of w number) []

-- what a function gives at each action from the world before it, in order
abbrev pub along : {X : Type 0} → (World → Action → List X) → World → List Action → List X
along gives w [] = []
along gives w (action ∷ actions) = gives w action ++ along gives (after w action) actions

-- the report of a schedule
abbrev pub report : List Action → List ℕ
report actions = along printed first_world actions
