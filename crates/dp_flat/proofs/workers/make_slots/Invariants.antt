use Rattle.std.proofs.Common.{◌≡◌, length}
use Rattle.dp_flat.proofs.workers.make_slots.Given as goal

-- there are as many as were made
abbrev pub invariant-loop-made : goal.invariant-loop-made
invariant-loop-made g l = record { count : length l.slots.items ≡ l._made }
