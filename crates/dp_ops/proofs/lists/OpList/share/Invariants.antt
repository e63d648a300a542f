use Rattle.std.proofs.Common.{◌≡◌, take}
use Rattle.dp_ops.proofs.lists.OpList.share.Given as goal

-- the operations before the index are copied
abbrev pub invariant-loop-op : goal.invariant-loop-op
invariant-loop-op l = l.ops.items ≡ take l.op-index l.op-items
