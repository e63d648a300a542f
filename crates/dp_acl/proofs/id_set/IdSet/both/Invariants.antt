use Rattle.std.proofs.Common.{◌≡◌, ◌<◌, ℕ, ◌&&◌}
use Rattle.dp_acl.specs.Table.{mark_of}
use Rattle.dp_acl.proofs.id_set.IdSet.both.Given as goal

-- the marks so far are those of both sets
abbrev pub invariant-loop-number : goal.invariant-loop-number
invariant-loop-number l =
    (k : ℕ) → k < l.number → mark_of l.both k ≡ (mark_of l.self k && mark_of l.other k)
