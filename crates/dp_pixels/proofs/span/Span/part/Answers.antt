use Rattle.std.proofs.Common.{arith}
use Rattle.dp_pixels.proofs.span.Span.part.Goals as goal

pub returns-clause-columns : goal.returns-clause-columns
returns-clause-columns c = λ k within. (
  λ here. let start = here.start in let end = here.end in record
      { start = omega arith; end = omega arith },
  λ there. let start = there.start in let end = there.end in record
      { start = omega arith; end = omega arith },
)
