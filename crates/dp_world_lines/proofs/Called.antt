-- The laws of lines and actions that a run calls.
use Rattle.std.proofs.Common.{◌≡◌, ℕ, List, [], ◌∷◌, ◌++◌}
use Rattle.dp_lines.specs.declared.line.Line.{Line}
use Rattle.dp_lines.specs.Ends.{AreSteps, IsDoable}
use Rattle.dp_schedule.specs.declared.action.Action.{Action}
use Rattle.dp_schedule.specs.LineGrammar.{Parses}
use Rattle.dp_world_lines.specs.Schedule.{IsStep}

-- a line asks for one action
abbrev pub OneAction : Type 0
OneAction = (line : List ℕ) (action other : Action) → Parses line action → Parses line other
    → action ≡ other

-- steps with a doable line after them are steps
abbrev pub FurtherStep : Type 0
FurtherStep = (done : List Line) (line : Line) → AreSteps IsStep done → IsDoable IsStep done line
    → AreSteps IsStep (done ++ line ∷ [])
