use Rattle.std.proofs.Common.{◌≡◌, replicate}
use Rattle.dp_shared.proofs.shared.repeated.Given as goal

-- as many as were made
abbrev pub invariant-loop-made : goal.invariant-loop-made
invariant-loop-made g l = l.items.items ≡ replicate l._made l.item
