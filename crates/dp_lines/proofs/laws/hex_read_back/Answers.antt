use Rattle.std.proofs.Common.{◌≡◌, ℕ, ◌%◌, ◌<◌, List, length, Result, Ok, Err, IsSome, inl, inr}
use Rattle.std.proofs.Common.{refl, ap, arith}
use Rattle.std.specs.List.{All, AllPass}
use Rattle.std.specs.Option.{is_some}
use Rattle.std.specs.Result.{result_ok}
use Rattle.std.proofs.lemmas.List.{get_or_past}
use Rattle.std.proofs.lemmas.Bool.{cases_lt}
use Rattle.hex.specs.Hex.{IsBytes, decode_of, is_hex_digit}
use Rattle.hex.specs.declared.error.FromHexError.{FromHexError}
use Rattle.hex.proofs.HexLemmas.{decode_of-encode_lower, decode_of-ok, decode_of-digits}
use Rattle.dp_lines.proofs.laws.hex_read_back.Goals as goal

-- what a word decodes to decides whether it has such digits
tells : (word : List ℕ) (r : Result (List ℕ) FromHexError) → decode_of word ≡ r
    → IsSome (result_ok r) → (length word % 2 ≡ 0) × AllPass is_hex_digit word
tells word (Ok bytes) is some = let ok = decode_of-ok word bytes is in (ok.0, ok.1)
tells word (Err error) is some = absurd (cc (some))

pub returns-clause-digits : goal.returns-clause-digits
returns-clause-digits c word = (
  tells word (decode_of word) refl,
  λ digits.
      let ok = decode_of-digits word digits.0 digits.1 in
      ap is_some (ap result_ok ok.1),
)

-- each byte of a list is below 256
is_bytes : (bytes : List ℕ) → All (λ byte. byte < 256) bytes → IsBytes bytes
is_bytes bytes each k = elim (cases_lt k (length bytes)) [
  | inl within ↦ each k 0 within
  | inr past ↦ omega (arith, get_or_past bytes k 0 past)
]

pub returns-clause-back : goal.returns-clause-back
returns-clause-back c bytes each = ap result_ok (decode_of-encode_lower bytes (is_bytes bytes each))
