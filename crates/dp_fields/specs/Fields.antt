-- The bytes of the numbers that a payload is made of.
use Rattle.std.specs.Prelude.{ℕ, ℤ, Bool, if◌then◌else◌, List, [], ◌∷◌}
use Rattle.std.specs.Int.{w8, w32, cast_unsigned}
use Rattle.byteorder.specs.Endian.{big_bytes}

abbrev pub one_byte : ℕ → List ℕ
one_byte n = n ∷ []

-- the highest byte first
abbrev pub two_bytes : ℕ → List ℕ
two_bytes n = big_bytes 2 n

-- the highest byte first
abbrev pub four_bytes : ℕ → List ℕ
four_bytes n = big_bytes 4 n

-- two's complement
abbrev pub signed_byte : ℤ → List ℕ
signed_byte z = cast_unsigned w8 z ∷ []

-- two's complement, the highest byte first
abbrev pub four_signed : ℤ → List ℕ
four_signed z = big_bytes 4 (cast_unsigned w32 z)

-- 0 or 1
abbrev pub flag_byte : Bool → List ℕ
flag_byte flag = (if flag then 1 else 0) ∷ []
