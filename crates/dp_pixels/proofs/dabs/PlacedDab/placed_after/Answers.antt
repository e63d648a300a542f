use Rattle.std.proofs.Common.{arith}
use Rattle.std.proofs.lemmas.Int.{ints, to_z-of_z}
use Rattle.dp_pixels.proofs.dabs.PlacedDab.placed_after.Goals as goal

pub returns-clause-value : goal.returns-clause-value
returns-clause-value c = grind (arith, ints, to_z-of_z)

pub returns-clause-near_x : goal.returns-clause-near_x
returns-clause-near_x c = omega (arith, ints)

pub returns-clause-near_y : goal.returns-clause-near_y
returns-clause-near_y c = omega (arith, ints)
