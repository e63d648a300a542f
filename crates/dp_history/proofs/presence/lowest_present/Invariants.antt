use Rattle.std.proofs.Common.{◌≡◌, ℕ, ◌<◌, ◌≤◌, false}
use Rattle.dp_history.specs.Users.{mark}
use Rattle.dp_history.proofs.presence.lowest_present.Given as goal

abbrev pub invariant-loop-user : goal.invariant-loop-user
invariant-loop-user l = (k : ℕ) → 1 ≤ k → k < l.user → mark l.present k ≡ false
