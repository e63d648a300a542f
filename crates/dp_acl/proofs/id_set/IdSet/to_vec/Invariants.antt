use Rattle.std.proofs.Common.{◌≡◌}
use Rattle.std.specs.List.{filter}
use Rattle.dp_acl.specs.LookBack.{numbers_below}
use Rattle.dp_acl.specs.Table.{mark_of}
use Rattle.dp_acl.proofs.id_set.IdSet.to_vec.Given as goal

-- the ids so far
abbrev pub invariant-loop-number : goal.invariant-loop-number
invariant-loop-number l = l.ids.items ≡ filter (mark_of l.self) (numbers_below l.number)
