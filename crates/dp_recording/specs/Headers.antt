-- Headers of recordings.
use Rattle.std.specs.Prelude.{◌≡◌, ◌⊎◌, ℕ, ◌+◌, ◌<◌, ◌≤◌, List, [], ◌∷◌, ◌++◌, length, take, drop}
use Rattle.std.specs.Prelude.{Some, codes, option_and_then, IsUtf8, ⊤}
use Rattle.byteorder.specs.Endian.{big_number}
use Rattle.serde_json.specs.Find.{as_str, get}
use Rattle.serde_json.specs.Read.{read}
use Rattle.dp_recording.specs.declared.header.HeaderError.{HeaderError}
use Rattle.dp_recording.specs.declared.header.HeaderError.TheVariants.{Bad, Short, Memory}
use Rattle.dp_recording.specs.declared.header.Profile.{Profile}
use Rattle.dp_recording.specs.declared.header.Profile.TheVariants.{First, Second}

-- the first bytes of each recording
abbrev pub magic : List ℕ
magic = codes "DPREC" ++ 0 ∷ []

-- the name of a profile
abbrev pub name_of : Profile → List ℕ
name_of First = codes "dp-int-1"
name_of Second = codes "dp-int-2"

-- The text is JSON whose key `profile` has this string: of equal keys the last one counts, and what
-- is no object has no keys.
abbrev pub TellsProfile : List ℕ → List ℕ → Type 0
TellsProfile text name =
    IsUtf8 text
    × (option_and_then as_str (option_and_then (get (codes "profile")) (read text)) ≡ Some name)

-- how long the header is that the bytes announce: the two bytes after the first six say how long
-- its text is
abbrev pub announced : List ℕ → ℕ
announced bytes = 8 + big_number 2 (drop 6 bytes)

-- the bytes begin with a header of `len` bytes, which tells this profile
pub record IsHeader (bytes : List ℕ) (profile : Profile) (len : ℕ) : Type 0 where
  pub begins : take 6 bytes ≡ magic
  pub long : len ≡ announced bytes
  pub whole : len ≤ length bytes
  pub tells : TellsProfile (drop 8 (take len bytes)) (name_of profile)

-- the bytes begin with no header
abbrev pub HasNoHeader : List ℕ → Type 0
HasNoHeader bytes = (profile : Profile) (len : ℕ) → IsHeader bytes profile len → ⊥

-- the bytes agree with the first six as far as both go, and are too few for a header
pub record IsShort (bytes : List ℕ) : Type 0 where
  pub begins : take 6 bytes ≡ take (length bytes) magic
  pub few : (length bytes < 8) ⊎ (length bytes < announced bytes)

-- why the bytes begin with no header
abbrev pub IsHeaderRefused : List ℕ → HeaderError → Type 0
IsHeaderRefused bytes Bad = HasNoHeader bytes × (IsShort bytes → ⊥)
IsHeaderRefused bytes Short = IsShort bytes
IsHeaderRefused bytes Memory = ⊤

-- the header that is written
abbrev pub header_bytes : List ℕ
header_bytes = magic ++ 0 ∷ 22 ∷ codes "{\"profile\":\"dp-int-2\"}"
