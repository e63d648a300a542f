use Rattle.std.proofs.Common.{map}
use Rattle.dp_history.specs.Frames.{AreWritten}
use Rattle.dp_history.specs.Items.{entry_in}
use Rattle.dp_history.proofs.item.write_all.Given as goal

abbrev pub invariant-loop-entry : goal.invariant-loop-entry
invariant-loop-entry l = AreWritten l.fn.frames (map (entry_in l.journal) l.live)
    → AreWritten l.frames (map (entry_in l.journal) l.live)
