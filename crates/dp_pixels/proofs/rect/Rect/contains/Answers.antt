use Rattle.std.proofs.Common.{arith}
use Rattle.std.proofs.lemmas.Int.{ints, to_z-of_z}
use Rattle.dp_pixels.proofs.rect.Rect.contains.Goals as goal

pub returns-then-self-place-2 : goal.returns-then-self-place-2
returns-then-self-place-2 c = grind (arith, ints, to_z-of_z)

pub returns-else-self-place-2 : goal.returns-else-self-place-2
returns-else-self-place-2 c = grind (arith, ints, to_z-of_z)
