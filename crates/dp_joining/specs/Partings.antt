-- How a client leaves its server.
use Rattle.std.specs.Prelude.{◌≡◌, ℕ, List, Option}
use Rattle.dp_lines.specs.declared.run_end.RunEnd.{RunEnd}
use Rattle.dp_lines.specs.declared.run_end.RunEnd.TheVariants as run
use Rattle.dp_line_machine.specs.declared.machine.ScriptEnd.{ScriptEnd}
use Rattle.dp_line_machine.specs.declared.machine.ScriptEnd.TheVariants.{Done, BadLine, ReadFault}
use Rattle.dp_line_machine.specs.declared.machine.ScriptEnd.TheVariants.{Long, Memory, Ended}
use Rattle.dp_join_link.specs.declared.stops.JoinStop.{JoinStop}
use Rattle.dp_joiner.specs.Partings.{SaysFarewell}
use Rattle.dp_join_link.specs.Stops.{end_of}

-- nothing more is written, and the run ends as is due
pub record IsSilent (old now : Option (List ℕ)) (before after : ℕ) (due end : RunEnd) : Type 0 where
  pub end_is : end ≡ due
  pub bytes : now ≡ old
  pub kept : after ≡ before

-- What is written to the link after the lines, and how the run ends: if all lines are done, the
-- client says that it leaves.
abbrev pub TakesLeave : Option (List ℕ) → Option (List ℕ) → ℕ → ℕ → ℕ → ScriptEnd JoinStop
    → RunEnd → Type 0
TakesLeave old now before after user Done end = SaysFarewell old now before after user end
TakesLeave old now before after user (BadLine n) end =
    IsSilent old now before after (run.BadLine n) end
TakesLeave old now before after user ReadFault end = IsSilent old now before after run.ReadFault end
TakesLeave old now before after user Long end = IsSilent old now before after run.Long end
TakesLeave old now before after user Memory end = IsSilent old now before after run.Memory end
TakesLeave old now before after user (Ended stop) end =
    IsSilent old now before after (end_of stop) end
