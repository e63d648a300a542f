use Rattle.std.proofs.Common.{take}
use Rattle.dp_acl.specs.LookBack.{lists}
use Rattle.dp_acl.specs.Table.{Mark}
use Rattle.dp_acl.proofs.id_set.IdSet.of.Given as goal

-- the set has the ids so far
abbrev pub invariant-loop-id : goal.invariant-loop-id
invariant-loop-id l = Mark l.set (lists (take l.id-index l.ids))
