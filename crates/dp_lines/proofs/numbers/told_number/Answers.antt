use Rattle.std.proofs.Common.{ℕ, decimal, List, ap, sym, ◌∙◌, subst}
use Rattle.std.specs.Result.{result_ok}
use Rattle.std.specs.Str.{IsUtf8}
use Rattle.std.proofs.lemmas.Fmt.{IsAscii-decimal, parse-decimal}
use Rattle.std.proofs.lemmas.Str.{IsUtf8-from_ascii}
use Rattle.dp_lines.specs.Numbers.{IsLongNumber}
use Rattle.dp_lines.proofs.numbers.told_number.Goals as goal

-- a number is text
text_of_number : (word : List ℕ) (n : ℕ) → IsLongNumber word n → IsUtf8 word
text_of_number word n is =
    subst IsUtf8 (sym is.text) (IsUtf8-from_ascii (decimal n) (IsAscii-decimal n is.fits))

-- bytes that are no text are no number
pub returns-in_default : goal.returns-in_default
returns-in_default c n is = absurd (c.in_default.ensures.cases.0
    (text_of_number c.args.word.now n is))

-- the digits of a number spell it
pub returns : goal.returns
returns c n is =
    c.ok.ensures.value
    ∙ ap result_ok (parse-decimal 64 n c.in-Ok.text.now c.parse.result is.fits is.fits
    (c.in-Ok.ensures.cases.0 ∙ is.text) c.parse.ensures.value.0)
