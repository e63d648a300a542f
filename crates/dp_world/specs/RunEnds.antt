-- What a run of a schedule leaves.
use Rattle.std.specs.Prelude.{◌≡◌, ℕ, List, ◌++◌, Option, Some, IfSome}
use Rattle.std.specs.Io.KnownBytes.{Appends, IsAtEnd}
use Rattle.dp_io.specs.Streams.{GrowsByPrefix}
use Rattle.dp_shown.specs.declared.end.PictureEnd.{PictureEnd}
use Rattle.dp_shown.specs.declared.end.PictureEnd.TheVariants as picture
use Rattle.dp_lines.specs.declared.line.Line.{Line}
use Rattle.dp_lines.specs.declared.run_end.RunEnd.{RunEnd}
use Rattle.dp_lines.specs.declared.run_end.RunEnd.TheVariants.{Done, BadLine, ReadFault, WriteFault}
use Rattle.dp_lines.specs.declared.run_end.RunEnd.TheVariants.{LinkFault, Memory, Long, Truncated}
use Rattle.dp_lines.specs.declared.run_end.RunEnd.TheVariants.{BadMessage, Closed, BadHeader}
use Rattle.dp_lines.specs.Ends.{LinesEnd, AreSteps, seen}
use Rattle.dp_lines.specs.Ends as ends
use Rattle.dp_lines.specs.Lines.{ended, numbered}
use Rattle.dp_lines.specs.TakenParts.{TookWithin}
use Rattle.dp_schedule.specs.declared.action.Action.{Action}
use Rattle.dp_line_machine.specs.Counters.{Counters}
use Rattle.dp_line_machine.specs.declared.machine.ScriptEnd.{ScriptEnd}
use Rattle.dp_line_machine.specs.declared.machine.ScriptEnd.TheVariants as script
use Rattle.dp_line_machine.specs.Leaves.{HoldsNoCause}
use Rattle.dp_sim.specs.Report.{report}
use Rattle.dp_world_lines.specs.Draws.{DrawsFor}
use Rattle.dp_world_lines.specs.Schedule.{AskFor, IsStep, WorldComesTo}
use Rattle.dp_line_machine.specs.Limits.{lines_limit}

-- how a run ends if that of its lines ends with this
abbrev pub run_end_of : ScriptEnd PictureEnd → RunEnd
run_end_of script.Done = Done
run_end_of (script.BadLine n) = BadLine n
run_end_of script.ReadFault = ReadFault
run_end_of script.Long = Long
run_end_of script.Memory = Memory
run_end_of (script.Ended picture.Failed) = WriteFault
run_end_of (script.Ended picture.Memory) = Memory

-- how a run ends whose input comes to this end
abbrev pub lines_end_of : LinesEnd → RunEnd
lines_end_of ends.AllDone = Done
lines_end_of (ends.BadLine n) = BadLine n
lines_end_of ends.TooLong = Long

-- If the input's bytes are known, they come to this end. The output grew by their report, and no
-- more was drawn than that schedule may draw.
abbrev pub ReportsWhole : Option (List ℕ) → Option (List ℕ) → Option (List ℕ) → Counters → LinesEnd
    → Type 0
ReportsWhole input old new counters end =
    IfSome input (λ bytes. (done : List Line) × (actions : List Action)
    × WorldComesTo bytes done actions end × Appends old new (report actions)
    × DrawsFor actions counters)

-- these lines are steps, the output grew by a prefix of their report, and no more was drawn than
-- they may draw
pub record HasBegun (begun : List Line) (old now : Option (List ℕ)) (counters : Counters) : Type 0
  where
    pub actions : List Action
    pub asked : AskFor begun actions
    pub steps : AreSteps IsStep begun
    pub text : GrowsByPrefix old now (report actions)
    pub counts : DrawsFor actions counters

-- so it is of the first of these lines
pub record HasBegunOf (lines : List Line) (old now : Option (List ℕ)) (counters : Counters) : Type 0
  where
    pub begun : List Line
    pub after : List Line
    pub parts : lines ≡ begun ++ after
    pub has : HasBegun begun old now counters

-- so it is of lines that are the first of those that count of an input whose bytes are known
abbrev pub ReportsPart : Option (List ℕ) → Option (List ℕ) → Option (List ℕ) → Counters → Type 0
ReportsPart input old new counters =
    IfSome input (λ bytes. HasBegunOf (seen lines_limit bytes) old new counters)

-- The output grew by a prefix of the report that an input of these bytes is due. It can't be that
-- it is due none, and it is due one at most.
abbrev pub GrowsByDue : List ℕ → Option (List ℕ) → Option (List ℕ) → Type 0
GrowsByDue bytes old now =
    ¬ ((done : List Line) (actions : List Action) (end : LinesEnd)
    → WorldComesTo bytes done actions end → ¬ GrowsByPrefix old now (report actions))

-- No more was drawn than the schedule may draw that an input of these bytes is. It can't be that it
-- is none, and it is one at most.
abbrev pub DrawsByDue : List ℕ → Counters → Type 0
DrawsByDue bytes counters =
    ¬ ((done : List Line) (actions : List Action) (end : LinesEnd)
    → WorldComesTo bytes done actions end → ¬ DrawsFor actions counters)

-- If the input's bytes are known, what was taken of it holds no cause to end. The last bytes of it,
-- at most a piece of 4096, may hold one.
abbrev pub TookNoCause : Option (List ℕ) → Option (List ℕ) → Type 0
TookNoCause input left =
    IfSome input (λ bytes. TookWithin (HoldsNoCause IsStep lines_limit) 4096 bytes left)

-- Of the bytes of the input these were taken, and those are left. What was taken holds no cause to
-- end: the lines that are whole in it are steps, the output grew by the report of them, and what
-- stands after them isn't too long. No more was drawn than those lines may draw.
pub record ReportsOf (bytes : List ℕ) (left old new : Option (List ℕ)) (counters : Counters) :
    Type 0 where
  pub taken : List ℕ
  pub untaken : List ℕ
  pub parts : bytes ≡ taken ++ untaken
  pub left_is : left ≡ Some untaken
  pub quiet : HoldsNoCause IsStep lines_limit taken
  pub actions : List Action
  pub asked : AskFor (numbered 0 (ended taken)) actions
  pub text : Appends old new (report actions)
  pub counts : DrawsFor actions counters

-- What a run with this end leaves of an input, on the output and on the counters.
abbrev pub WorldLeaves : Option (List ℕ) → Option (List ℕ) → Option (List ℕ) → Option (List ℕ)
    → Counters → RunEnd → Type 0
WorldLeaves input left old new counters Done =
    IsAtEnd left × ReportsWhole input old new counters ends.AllDone
WorldLeaves input left old new counters (BadLine n) =
    ReportsWhole input old new counters (ends.BadLine n) × TookNoCause input left
WorldLeaves input left old new counters Long =
    ReportsWhole input old new counters ends.TooLong × TookNoCause input left
WorldLeaves input left old new counters ReadFault =
    IfSome input (λ bytes. ReportsOf bytes left old new counters)
WorldLeaves input left old new counters WriteFault =
    ReportsPart input old new counters × TookNoCause input left
WorldLeaves input left old new counters Memory = ReportsPart input old new counters
WorldLeaves input left old new counters LinkFault = ⊥
WorldLeaves input left old new counters (Truncated n) = ⊥
WorldLeaves input left old new counters (BadMessage n) = ⊥
WorldLeaves input left old new counters Closed = ⊥
WorldLeaves input left old new counters BadHeader = ⊥
