use Rattle.dp_blend.proofs.RowBytes.{PutTo}
use Rattle.dp_blend.proofs.white.each_on_white.Given as goal

-- the bytes of the pixels before k are put
abbrev pub invariant-loop-k : goal.invariant-loop-k
invariant-loop-k l = PutTo l.k l.pixels l.initial.bytes l.bytes
