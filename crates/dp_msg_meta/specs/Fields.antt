-- What names, texts and ids meet.
use Rattle.std.specs.Prelude.{ℕ, ◌+◌, ◌≤◌, List, [], ◌∷◌, length, ⊤}
use Rattle.std.specs.Str.{IsUtf8}

-- ids rise strictly within low to 254
abbrev pub RiseFrom : ℕ → List ℕ → Type 0
RiseFrom low [] = ⊤
RiseFrom low (id ∷ ids) = (low ≤ id) × (id ≤ 254) × RiseFrom (id + 1) ids

-- a name has 1 to 32 bytes
abbrev pub IsName : List ℕ → Type 0
IsName name = (1 ≤ length name) × (length name ≤ 32)

-- a text is UTF-8 of at most 65,535 bytes
abbrev pub IsText : List ℕ → Type 0
IsText text = IsUtf8 text × (length text ≤ 65535)
