-- A wire in memory, as clauses see it.
use Rattle.std.specs.Prelude.{ℕ, List, map, Result, Ok, Err}
use Rattle.std.specs.declared.snapshot.Snapshot.{Snapshot}
use Rattle.dp_io.specs.Faults.{Failures, counted, refused}
use Rattle.dp_io.specs.Memory.{SourceState, SinkState}
use Rattle.dp_wire.specs.Links.{Links}
use Rattle.dp_wire.specs.declared.wire.WireError.{WireError}
use Rattle.dp_wire.specs.declared.wire.WireError.TheVariants.{Failed, Memory}

-- a `MemWire`: its links, how many may be handed back, and the calls that fail
pub record WireState : Type 0 where
  pub links : Links SourceState SinkState
  pub room : ℕ
  pub plan : Failures

-- what snapshots show
abbrev pub shown : {A : Type 0} → List (Snapshot A) → List A
shown snapshots = map (λ s. s.value) snapshots

-- The plan after a call with this answer: each call is counted, and one that failed as a fault too.
abbrev pub plan_after : {T : Type 0} → Failures → Result T WireError → Failures
plan_after plan (Ok x) = counted plan
plan_after plan (Err Failed) = refused plan
plan_after plan (Err Memory) = counted plan
