use Rattle.std.proofs.Common.{arith}
use Rattle.std.proofs.lemmas.Int.{ints, clamps}
use Rattle.dp_pixels.proofs.region.count_below.Goals as goal

pub returns : goal.returns
returns c = record {
  within = omega (arith, ints);
  below = λ k in_len. (λ first. omega (arith, ints, clamps), λ low. omega (arith, ints, clamps));
}
