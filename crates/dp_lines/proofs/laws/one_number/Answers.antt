use Rattle.std.proofs.Common.{◌<◌, ◌^◌, sym, ◌∙◌, arith}
use Rattle.std.proofs.lemmas.Fmt.{decimal_injective}
use Rattle.dp_lines.proofs.laws.one_number.Goals as goal

pub returns : goal.returns
returns c word m n first second =
    let small_m : m < 2 ^ 64 = omega (arith, first.fits) in
    let small_n : n < 2 ^ 64 = omega (arith, second.fits) in
    decimal_injective m n small_m small_n (sym first.text ∙ second.text)
