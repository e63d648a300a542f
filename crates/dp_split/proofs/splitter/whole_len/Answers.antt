use Rattle.std.proofs.Common.{arith}
use Rattle.dp_frame.proofs.Spellings.{holds_frame}
use Rattle.dp_split.proofs.splitter.whole_len.Goals as goal

pub returns-then-len-bytes-clause-some : goal.returns-then-len-bytes-clause-some
returns-then-len-bytes-clause-some c =
    holds_frame c.args.bytes.now (λ i. omega (arith, c.type_inv.bytes i)) (omega arith)
    (omega arith)
