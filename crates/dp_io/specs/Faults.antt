-- Faults of the outside, as sources, sinks, links and stores count them.
use Rattle.std.specs.Prelude.{◌≡◌, ℕ, ◌+◌, ◌-◌, ◌^◌, ◌<◌, ◌≤◌, min, Bool, true, List, Contains}
use Rattle.std.specs.Prelude.{OnOk, IfErr}
use Rattle.std.specs.Bool.{OnTrue}
use Rattle.std.specs.declared.result.Result.{Result}

-- one more, up to the greatest `u64`
abbrev pub one_more : ℕ → ℕ
one_more count = min (count + 1) (2 ^ 64 - 1)

-- the count is higher than before, or stands at its last value
abbrev pub Rose : ℕ → ℕ → Type 0
Rose before now = one_more before ≤ now

-- Every error of the call is a fault.
abbrev pub any_fault : {E : Type 0} → E → Bool
any_fault e = true

-- The count of faults never falls. An error that is a fault comes only if it rose, and a call
-- that is answered Ok leaves it.
pub record HasCause {T E : Type 0} (is_fault : E → Bool) (before now : ℕ) (result : Result T E) :
    Type 0 where
  pub later : before ≤ now
  pub failed : IfErr result (λ e. OnTrue (is_fault e) (Rose before now))
  pub kept : OnOk result (now ≡ before)

-- Which calls are to fail, by their numbers from 1; how many calls were made; how many faults there
-- were. Both counts stop at the greatest `u64`.
pub record Failures : Type 0 where
  pub fails : List ℕ
  pub calls : ℕ
  pub faults : ℕ

-- the next call is one of those that are to fail
abbrev pub IsDue : Failures → Type 0
IsDue plan = (plan.calls < 2 ^ 64 - 1) × Contains plan.fails (plan.calls + 1)

-- one more call was made
abbrev pub counted : Failures → Failures
counted plan = record plan { calls = one_more plan.calls }

-- one more call was made, and it failed
abbrev pub refused : Failures → Failures
refused plan = record plan { calls = one_more plan.calls; faults = one_more plan.faults }
