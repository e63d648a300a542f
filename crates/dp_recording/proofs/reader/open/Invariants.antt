use Rattle.std.proofs.Common.{◌≡◌, ◌-◌, ℕ, List, Some, length}
use Rattle.dp_recording.specs.Recordings.{HoldsHeader}
use Rattle.dp_recording.proofs.reader.open.Given as goal

abbrev pub invariant-pieces : goal.invariant-pieces
invariant-pieces g l =
    ((bytes : List ℕ) → g.I.Source.left l.fn.input ≡ Some bytes
    → HoldsHeader bytes (g.I.Source.left l.input) l.held.items)
    × (g.I.Source.faults l.input ≡ g.I.Source.faults l.fn.input)

abbrev pub decreases-pieces : goal.decreases-pieces
decreases-pieces g l = 65543 - length l.held.items
