use Rattle.std.proofs.Common.{◌≡◌, ℕ, ◌+◌, ◌≤◌, false, is_some}
use Rattle.dp_epochs.specs.State.{open_in}
use Rattle.dp_commit.proofs.connections.next_open.Given as goal

abbrev pub invariant-loop-index : goal.invariant-loop-index
invariant-loop-index l =
    (k : ℕ) → l.after + 1 ≤ k → k ≤ l.index → is_some (open_in l.connections k) ≡ false
