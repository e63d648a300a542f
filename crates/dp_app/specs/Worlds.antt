-- What holds of each world that `world` prints from.
use Rattle.std.specs.Prelude.{◌≡◌, ℕ, List, ◌++◌}
use Rattle.dp_lines.specs.declared.line.Line.{Line}
use Rattle.dp_lines.specs.Ends.{seen}
use Rattle.dp_schedule.specs.declared.action.Action.{Action}
use Rattle.dp_line_machine.specs.Limits.{lines_limit}
use Rattle.dp_sim.specs.Headline.{Headline}
use Rattle.dp_sim.specs.World.{world_after}
use Rattle.dp_world_lines.specs.Schedule.{AskFor}
use Rattle.dp_world_laws.specs.Unended.{AskUnended, HasPlainFork}

-- the headline holds of the world after the first lines of an input of these bytes, however many:
-- so of each world that is printed from
abbrev pub HasHeadline : List ℕ → Type 0
HasHeadline bytes =
    (done after : List Line) (actions : List Action)
    → seen lines_limit bytes ≡ done ++ after → AskFor done actions
    → Headline (world_after actions)

-- The unanswered sends of each client, after the first lines of an input of these bytes, however
-- many. They are its sends since its Welcome, or its last mark of a reset, without the first n.
-- Here n is how many own answers it has taken since. No event of the lines may be answered Ended.
abbrev pub HasPlainForks : List ℕ → Type 0
HasPlainForks bytes =
    (done after : List Line) (actions : List Action) (number : ℕ)
    → seen lines_limit bytes ≡ done ++ after → AskUnended done actions
    → HasPlainFork actions number
