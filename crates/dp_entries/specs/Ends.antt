-- How reading entries ends.
use Rattle.std.specs.Prelude.{ℕ, ⊤}
use Rattle.dp_lines.specs.declared.run_end.RunEnd.{RunEnd}
use Rattle.dp_lines.specs.declared.run_end.RunEnd.TheVariants as run
use Rattle.dp_entries.specs.declared.ends.Refusal.{Refusal}
use Rattle.dp_entries.specs.declared.ends.Refusal.TheVariants as refusal
use Rattle.dp_entries.specs.declared.ends.ReadEnd.{ReadEnd}
use Rattle.dp_entries.specs.declared.ends.ReadEnd.TheVariants.{ReadFault, Truncated, BadMessage}
use Rattle.dp_entries.specs.declared.ends.ReadEnd.TheVariants.{Long, Memory}

-- P holds of the cause, if there is one
abbrev pub IfCause : {C : Type 0} → (C → Type 0) → Refusal C → Type 0
IfCause P (refusal.Cause cause) = P cause
IfCause P refusal.Memory = ⊤

-- how a run ends for which reading its input ended with this
abbrev pub end_of : {C : Type 0} → ReadEnd C → RunEnd
end_of ReadFault = run.ReadFault
end_of (Truncated n) = run.Truncated n
end_of (BadMessage cause n) = run.BadMessage n
end_of Long = run.Long
end_of Memory = run.Memory

-- how reading ends if the frame at this byte gives no entry
abbrev pub refused_at : {C : Type 0} → ℕ → Refusal C → ReadEnd C
refused_at at (refusal.Cause cause) = BadMessage cause at
refused_at at refusal.Memory = Memory

-- it is a frame that may not stand, or memory ran out
abbrev pub IsRefusal : {C : Type 0} → ReadEnd C → Type 0
IsRefusal ReadFault = ⊥
IsRefusal (Truncated n) = ⊥
IsRefusal (BadMessage cause n) = ⊤
IsRefusal Long = ⊥
IsRefusal Memory = ⊤
