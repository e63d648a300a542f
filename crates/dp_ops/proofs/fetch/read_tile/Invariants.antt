use Rattle.std.proofs.Common.{◌≡◌, false}
use Rattle.dp_ops.proofs.fetch.read_tile.Given as goal

-- no alpha is above one
abbrev pub invariant-loop-line : goal.invariant-loop-line
invariant-loop-line l = l.above ≡ false
