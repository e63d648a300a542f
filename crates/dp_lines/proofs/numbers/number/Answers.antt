-- The number of 64 bits that the word is, is the one of 32, if there is one.
use Rattle.std.proofs.Common.{◌<◌, ◌^◌, ℕ, List, Option, arith, subst, sym, ◌∙◌}
use Rattle.std.proofs.lemmas.Fmt.{decimal_injective}
use Rattle.std.specs.Prelude.{IfNone, Result, Ok, Err}
use Rattle.std.specs.Result.{OkIff, result_ok}
use Rattle.dp_lines.specs.Numbers.{IsNumber}
use Rattle.dp_lines.proofs.numbers.number.Goals as goal

none-small : {E : Type 0} (tried : Result ℕ E) (word : List ℕ) (P : Type 0) (n : ℕ)
    → OkIff tried P n → ((m : ℕ) → IsNumber word m → P)
    → IfNone (result_ok tried) ((m : ℕ) → IsNumber word m → ⊥)
none-small (Ok x) word P n h fits = tt
none-small (Err e) word P n h fits = λ m is. h (fits m is)

pub returns-clause-none : goal.returns-clause-none
returns-clause-none c =
    let long = c.in_ok-long_number.ensures.some in
    subst (λ (o : Option ℕ). IfNone o ((m : ℕ) → IsNumber c.args.word.now m → ⊥))
    (sym c.ok.ensures.value)
    (none-small c.try_from.result c.args.word.now _ _ c.try_from.ensures (λ m is.
    subst (λ (k : ℕ). k < 2 ^ 32)
    (decimal_injective m c.in_ok-long_number.field-0 (omega (arith, is.fits)) long.fits
    (sym is.text ∙ long.text)) is.fits))
