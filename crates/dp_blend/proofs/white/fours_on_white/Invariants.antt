use Rattle.std.proofs.Common.{◌*◌}
use Rattle.dp_blend.proofs.RowBytes.{PutTo}
use Rattle.dp_blend.proofs.white.fours_on_white.Given as goal

-- the bytes of the pixels before four times k are put
abbrev pub invariant-loop-k : goal.invariant-loop-k
invariant-loop-k l = PutTo (4 * l.k) l.pixels l.initial.bytes l.bytes
