-- The commands that work on the input and the output alone.
use Rattle.std.specs.Prelude.{◌≡◌, ℕ, List, Option, Some, ⊤}
use Rattle.std.specs.Io.KnownBytes.{Appends, IsAtEnd, Keeps}
use Rattle.dp_drill.specs.Leaves.{DrillLeaves}
use Rattle.dp_drill.specs.Summary.{drill_text}
use Rattle.dp_lines.specs.declared.line.Line.{Line}
use Rattle.dp_lines.specs.declared.run_end.RunEnd.{RunEnd}
use Rattle.dp_lines.specs.declared.run_end.RunEnd.TheVariants.{Done, BadLine, ReadFault, WriteFault}
use Rattle.dp_lines.specs.declared.run_end.RunEnd.TheVariants.{LinkFault}
use Rattle.dp_lines.specs.declared.run_end.RunEnd.TheVariants.{Memory, Long, Truncated, BadMessage}
use Rattle.dp_lines.specs.declared.run_end.RunEnd.TheVariants.{Closed, BadHeader}
use Rattle.dp_lines.specs.Ends.{LinesEnd}
use Rattle.dp_messages.specs.declared.message.Entry.{Entry}
use Rattle.dp_schedule.specs.declared.action.Action.{Action}
use Rattle.dp_line_machine.specs.Counters.{Counters, NothingIsDrawn}
use Rattle.dp_sim.specs.Report.{report}
use Rattle.dp_viewer.specs.Pictures.{PictureLeaves, picture_text}
use Rattle.dp_viewer.specs.Ways.{Way, play_way, replay_way}
use Rattle.dp_words.specs.declared.command_line.LocalCommand.{LocalCommand}
use Rattle.dp_words.specs.declared.command_line.LocalCommand.TheVariants.{Replay, World, Play}
use Rattle.dp_words.specs.declared.command_line.LocalCommand.TheVariants.{Drill}
use Rattle.dp_world.specs.RunEnds.{WorldLeaves, lines_end_of}
use Rattle.dp_world_lines.specs.Schedule.{WorldComesTo}
use Rattle.dp_endings.specs.Answer.{Answer, answer_for}

-- A command on an input and an output: the answer that an input of these bytes is due, and what a
-- run with this end leaves. Last, whether it reads its input to the end.
pub record Run : Type 1 where
  pub due : List ℕ → Answer → Type 0
  pub leaves : Option (List ℕ) → Option (List ℕ) → Option (List ℕ) → Option (List ℕ) → Counters
      → RunEnd → Type 0
  pub reads : Type 0

-- no device failed, and memory sufficed
abbrev pub IsUnfailed : RunEnd → Type 0
IsUnfailed ReadFault = ⊥
IsUnfailed WriteFault = ⊥
IsUnfailed LinkFault = ⊥
IsUnfailed Memory = ⊥
IsUnfailed Done = ⊤
IsUnfailed (BadLine n) = ⊤
IsUnfailed Long = ⊤
IsUnfailed (Truncated n) = ⊤
IsUnfailed (BadMessage n) = ⊤
IsUnfailed Closed = ⊤
IsUnfailed BadHeader = ⊤

-- if the end says that the input was read to its end, nothing is left of it
abbrev pub IsReadWhole : RunEnd → Option (List ℕ) → Type 0
IsReadWhole Done left = IsAtEnd left
IsReadWhole (Truncated n) left = IsAtEnd left
IsReadWhole (BadLine n) left = ⊤
IsReadWhole ReadFault left = ⊤
IsReadWhole WriteFault left = ⊤
IsReadWhole LinkFault left = ⊤
IsReadWhole Memory left = ⊤
IsReadWhole Long left = ⊤
IsReadWhole (BadMessage n) left = ⊤
IsReadWhole Closed left = ⊤
IsReadWhole BadHeader left = ⊤

-- Each input is due one answer, and it is given if nothing failed; it can't be that it is due
-- none. A run that reads its input reads all of it if its end says so. It has begun with
-- nothing, and it has no link.
pub record IsLocalRun (run : Run) : Type 0 where
  pub given : (bytes : List ℕ) (left old new : Option (List ℕ)) (c : Counters) (end : RunEnd)
      → run.leaves (Some bytes) left old new c end → IsUnfailed end
      → (text : List ℕ) × run.due bytes (answer_for end text) × Appends old new text
  pub one : (bytes : List ℕ) (a b : Answer) → run.due bytes a → run.due bytes b → a ≡ b
  pub some : (bytes : List ℕ) → ¬ ((a : Answer) → ¬ run.due bytes a)
  pub whole : (input left old new : Option (List ℕ)) (c : Counters) (end : RunEnd)
      → run.leaves input left old new c end → run.reads → IsReadWhole end left
  pub begun : (input left old new : Option (List ℕ)) (c : Counters) → Keeps input left
      → Keeps old new → NothingIsDrawn c → run.leaves input left old new c Memory
  pub alone : (input left old new : Option (List ℕ)) (c : Counters)
      → run.leaves input left old new c LinkFault → ⊥

-- ---- pictures

-- A command that writes the picture of what its input comes to. No bound on what it draws is
-- claimed.
abbrev pub picture_run : Way → Run
picture_run way = record {
  due = λ bytes answer. (entries : List Entry) × (end : RunEnd) × way.comes bytes entries end
      × (answer ≡ answer_for end (picture_text way entries end));
  leaves = λ input left old new c. PictureLeaves way input left old new;
  reads = ⊤;
}

-- ---- schedules

-- the command that writes the report of a schedule
abbrev pub world_run : Run
world_run = record {
  due = λ bytes answer. (done : List Line) × (actions : List Action) × (end : LinesEnd)
      × WorldComesTo bytes done actions end
      × (answer ≡ answer_for (lines_end_of end) (report actions));
  leaves = WorldLeaves;
  reads = ⊤;
}

-- ---- drills

-- the command that makes a session from a number, and writes its summary; it reads no input
abbrev pub drill_run : ℕ → ℕ → Run
drill_run seed rounds = record {
  due = λ bytes answer. answer ≡ answer_for Done (drill_text seed rounds);
  leaves = λ input left old new c end. Keeps input left
      × DrillLeaves seed rounds old new c.draws c.draws_now c.tiles c.tiles_now end;
  reads = ⊥;
}

-- ---- all of them

abbrev pub run_of : LocalCommand → Run
run_of Replay = picture_run replay_way
run_of World = world_run
run_of (Play at workers) = picture_run (play_way at)
run_of (Drill seed rounds workers) = drill_run seed rounds
