use Rattle.std.proofs.Common.{◌*◌, take}
use Rattle.dp_blend.proofs.Least.{AreAtLeast}
use Rattle.dp_blend.proofs.covering.is_none_clear.Given as goal

-- the sources before two times k are looked at
abbrev pub invariant-loop-k : goal.invariant-loop-k
invariant-loop-k l = AreAtLeast l.least (take (2 * l.k) l.sources)
