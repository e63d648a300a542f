-- How far the machine of a schedule has come, and how a line ends its run.
use Rattle.std.specs.Prelude.{◌≡◌, ◌⊎◌, ℕ, ◌≤◌, List, [], ◌∷◌, ◌++◌, Option, ⊤}
use Rattle.std.specs.Io.KnownBytes.{Appends}
use Rattle.dp_io.specs.Faults.{Rose}
use Rattle.dp_io.specs.Streams.{GrowsByPrefix}
use Rattle.dp_shown.specs.declared.end.PictureEnd.{PictureEnd}
use Rattle.dp_shown.specs.declared.end.PictureEnd.TheVariants.{Failed, Memory}
use Rattle.dp_lines.specs.declared.line.Line.{Line}
use Rattle.dp_schedule.specs.declared.action.Action.{Action}
use Rattle.dp_schedule.specs.LineGrammar.{Parses}
use Rattle.dp_line_machine.specs.declared.machine.Undone.{Undone}
use Rattle.dp_line_machine.specs.declared.machine.Undone.TheVariants.{NoStep, Ended}
use Rattle.dp_line_machine.specs.Counters.{Counters, counters_of}
use Rattle.dp_line_machine.specs.Moments.{Moment}
use Rattle.dp_sim.specs.Report.{report}
use Rattle.dp_sim.specs.World.{World, world_after}
use Rattle.dp_world_lines.specs.declared.line_run.WorldRun.{WorldRun}
use Rattle.dp_world_lines.specs.Draws.{DrawsFor}
use Rattle.dp_world_lines.specs.Schedule.{AskFor, IsPossible, IsStep}

-- the world of a machine, by what its world is seen as
abbrev pub world_of : {W B : Type 0} → (W → World) → WorldRun W B → World
world_of seen run = seen run.world

-- why no action is had of a line: it asks for nothing that may be done in the world, or memory ran
-- out
abbrev pub IsWorldLineRefused : Line → World → Undone PictureEnd → Type 0
IsWorldLineRefused line world NoStep =
    (action : Action) → Parses line.bytes action → ¬ IsPossible world action
IsWorldLineRefused line world (Ended Memory) = ⊤
IsWorldLineRefused line world (Ended Failed) = ⊥

-- From the first moment to the second one these lines were done: the world is the one after them,
-- the output grew by their report, and it didn't fail. No more was drawn than they may draw.
pub record HasDone {M O : Type 0} (world : M → World) (held : O → Option (List ℕ))
    (faults : O → ℕ) (start : Moment M O ℕ ℕ) (done : List Line) (now : Moment M O ℕ ℕ) : Type 0
  where
    pub actions : List Action
    pub asked : AskFor done actions
    pub reaches : world now.machine ≡ world_after actions
    pub text : Appends (held start.output) (held now.output) (report actions)
    pub counts : DrawsFor actions (counters_of start now)
    pub kept : faults now.output ≡ faults start.output

-- the output grew by a prefix of the report of these lines, and no more was drawn than they may
-- draw
pub record Wrote (begun : List Line) (old now : Option (List ℕ)) (counters : Counters) : Type 0
  where
    pub actions : List Action
    pub asked : AskFor begun actions
    pub text : GrowsByPrefix old now (report actions)
    pub counts : DrawsFor actions counters

-- The next line, which is a step, ended the run: the output failed in its text.
pub record FailedAt (done : List Line) (line : Line) (old now : Option (List ℕ))
    (counters : Counters) (before after : ℕ) : Type 0 where
  pub step : IsStep done line
  pub wrote : Wrote (done ++ line ∷ []) old now counters
  pub rose : Rose before after
  pub later : before ≤ after

-- Memory ran out before the next line, or in its text.
pub record RanOutAt (done : List Line) (line : Line) (old now : Option (List ℕ))
    (counters : Counters) (before after : ℕ) : Type 0 where
  pub wrote : Wrote done old now counters
      ⊎ (IsStep done line × Wrote (done ++ line ∷ []) old now counters)
  pub kept : after ≡ before

-- From the first moment these lines were done, and at the second one the next had ended the run so.
abbrev pub HasEnded : {M O : Type 0} → (O → Option (List ℕ)) → (O → ℕ) → Moment M O ℕ ℕ
    → List Line → Line → Moment M O ℕ ℕ → PictureEnd → Type 0
HasEnded held faults start done line now Failed =
    FailedAt done line (held start.output) (held now.output) (counters_of start now)
    (faults start.output) (faults now.output)
HasEnded held faults start done line now Memory =
    RanOutAt done line (held start.output) (held now.output) (counters_of start now)
    (faults start.output) (faults now.output)
