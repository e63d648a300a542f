use Rattle.std.proofs.Common.{◌≡◌, false}
use Rattle.dp_ops.proofs.fetch.read_ends.Given as goal

-- no alpha is above one
abbrev pub invariant-loop-y : goal.invariant-loop-y
invariant-loop-y l = l.above ≡ false
