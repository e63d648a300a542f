use Rattle.std.proofs.Common.{length}
use Rattle.dp_lines.specs.Taken.{Keeps}
use Rattle.dp_lines.proofs.lines.Lines.pass_over.Given as goal

abbrev pub invariant-passed : goal.invariant-passed
invariant-passed l = Keeps l.initial.self l.self

abbrev pub decreases-passed : goal.decreases-passed
decreases-passed l = length l.self.bytes
