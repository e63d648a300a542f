-- Why a line isn't done, and which counts of faults rise.
use Rattle.std.specs.Prelude.{◌≡◌, ℕ, ⊤}
use Rattle.dp_io.specs.Faults.{Rose}
use Rattle.dp_line_machine.specs.declared.machine.Undone.{Undone}
use Rattle.dp_line_machine.specs.declared.machine.Undone.TheVariants as undone
use Rattle.dp_line_machine.specs.declared.machine.ScriptEnd.{ScriptEnd}
use Rattle.dp_line_machine.specs.declared.machine.ScriptEnd.TheVariants.{Done, BadLine, ReadFault, Long}
use Rattle.dp_line_machine.specs.declared.machine.ScriptEnd.TheVariants.{Memory, Ended}

-- P holds if the line is no step
abbrev pub IfNoStep : {E : Type 0} → Type 0 → Undone E → Type 0
IfNoStep P undone.NoStep = P
IfNoStep P (undone.Ended end) = ⊤

-- P holds of the end, if there is one
abbrev pub IfEnded : {E : Type 0} → (E → Type 0) → Undone E → Type 0
IfEnded P undone.NoStep = ⊤
IfEnded P (undone.Ended end) = P end

-- the count of the input's faults after a run with this end: a fault raised it, and else it stays
abbrev pub FaultMatchesInput : {E : Type 0} → ℕ → ℕ → ScriptEnd E → Type 0
FaultMatchesInput before now Done = now ≡ before
FaultMatchesInput before now (BadLine n) = now ≡ before
FaultMatchesInput before now ReadFault = Rose before now
FaultMatchesInput before now Long = now ≡ before
FaultMatchesInput before now Memory = now ≡ before
FaultMatchesInput before now (Ended end) = now ≡ before

-- a line stopped the run, or memory ran out before one
abbrev pub IsOfLines : {E : Type 0} → ScriptEnd E → Type 0
IsOfLines Done = ⊥
IsOfLines (BadLine n) = ⊤
IsOfLines ReadFault = ⊥
IsOfLines Long = ⊥
IsOfLines Memory = ⊤
IsOfLines (Ended end) = ⊤
