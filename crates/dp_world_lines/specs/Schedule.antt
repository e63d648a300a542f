-- The schedule that an input is.
use Rattle.std.specs.Prelude.{ℕ, List, [], ◌∷◌, ⊤, IsSome}
use Rattle.dp_lines.specs.declared.line.Line.{Line}
use Rattle.dp_lines.specs.Ends.{LinesEnd, LinesComeTo}
use Rattle.dp_schedule.specs.declared.action.Action.{Action}
use Rattle.dp_schedule.specs.declared.action.Action.TheVariants.{Join, Act, Show}
use Rattle.dp_schedule.specs.LineGrammar.{Parses}
use Rattle.dp_sim.specs.World.{World, world_after, participant_of}
use Rattle.dp_line_machine.specs.Limits.{lines_limit}

-- the lines ask for these actions, one each
abbrev pub AskFor : List Line → List Action → Type 0
AskFor [] [] = ⊤
AskFor [] (action ∷ actions) = ⊥
AskFor (line ∷ lines) [] = ⊥
AskFor (line ∷ lines) (action ∷ actions) = Parses line.bytes action × AskFor lines actions

-- the action may be done in the world: a client that it names is there
abbrev pub IsPossible : World → Action → Type 0
IsPossible w (Join name registered) = ⊤
IsPossible w (Act client instruction) = IsSome (participant_of w client)
IsPossible w (Show client kind) = IsSome (participant_of w client)

-- the line is a step after these lines: it asks for what may be done in the world after them
pub record IsStep (done : List Line) (line : Line) : Type 0 where
  pub actions : List Action
  pub before : AskFor done actions
  pub action : Action
  pub asks : Parses line.bytes action
  pub possible : IsPossible (world_after actions) action

-- what an input comes to: the lines that are done, what they ask for, and how it ends
abbrev pub WorldComesTo : List ℕ → List Line → List Action → LinesEnd → Type 0
WorldComesTo input done actions end =
    LinesComeTo IsStep lines_limit input done end × AskFor done actions
