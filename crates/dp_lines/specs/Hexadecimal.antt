-- Bytes as hexadecimal digits, two for each.
use Rattle.std.specs.Prelude.{ℕ, List, Option}
use Rattle.std.specs.Result.{result_ok}
use Rattle.hex.specs.Hex.{decode_of, encode_lower}

-- the bytes that the digits spell, of either case; a text of odd length, or with another byte,
-- spells none
abbrev pub hex_bytes : List ℕ → Option (List ℕ)
hex_bytes word = result_ok (decode_of word)

-- the digits of the bytes, in lower case
abbrev pub hex_text : List ℕ → List ℕ
hex_text bytes = encode_lower bytes
