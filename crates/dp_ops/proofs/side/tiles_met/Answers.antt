use Rattle.std.proofs.Common.{arith, w64}
use Rattle.std.proofs.lemmas.Int.{clamps, ints, to_z-of_z}
use Rattle.dp_ops.proofs.side.tiles_met.Goals as goal

pub returns-then-from-to-clause-all : goal.returns-then-from-to-clause-all
returns-then-from-to-clause-all c = λ k after before some low high.
    let none = c.if-from-to.true in
    absurd (omega (
      arith,
      ints,
      none,
      some,
      to_z-of_z w64 c.args.from c.ranges.from,
      to_z-of_z w64 c.args.to c.ranges.to,
    ))

pub returns-clause-all : goal.returns-clause-all
returns-clause-all c = λ k after before some low high. (
  omega (arith, ints, clamps, after, before, low, to_z-of_z w64 c.args.from c.ranges.from),
  omega (arith, ints, clamps, after, before, high, to_z-of_z w64 c.args.to c.ranges.to),
)
