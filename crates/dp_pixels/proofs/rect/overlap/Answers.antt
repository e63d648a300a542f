use Rattle.std.proofs.Common.{◌≡◌, arith, refl, w64, to_z, of_z}
use Rattle.std.specs.Int.{int_max, int_min}
use Rattle.std.proofs.lemmas.Int.{to_z-of_z}
use Rattle.dp_pixels.proofs.rect.overlap.Goals as goal

pub returns : goal.returns
returns c =
    let low : to_z w64 (of_z w64 c.max.result) ≡ int_max c.args.from c.args.other_from =
    grind (arith, to_z-of_z) in
    let high : to_z w64 (of_z w64 c.min.result) ≡ int_min c.args.to c.args.other_to =
    grind (arith, to_z-of_z) in
    rw (low, high) refl
