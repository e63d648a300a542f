-- What the parts of a message meet, whatever their bytes.
use Rattle.std.specs.Prelude.{◌≡◌, ℕ, ◌≤◌, ◌⊎◌, List, length}
use Rattle.std.specs.Str.{IsUtf8}

-- a title has at most 255 bytes, and they are UTF-8
abbrev pub IsTitle : List ℕ → Type 0
IsTitle bytes = (length bytes ≤ 255) × IsUtf8 bytes

-- the numbers of the blend modes: erase, normal, multiply, add, recolor, replace
abbrev pub IsListedMode : ℕ → Type 0
IsListedMode mode =
    (mode ≡ 0) ⊎ (mode ≡ 1) ⊎ (mode ≡ 2) ⊎ (mode ≡ 9) ⊎ (mode ≡ 10) ⊎ (mode ≡ 255)

-- the kinds of the drawing messages
abbrev pub IsDrawKind : ℕ → Type 0
IsDrawKind kind =
    ((129 ≤ kind) × (kind ≤ 134)) ⊎ ((136 ≤ kind) × (kind ≤ 137)) ⊎ ((146 ≤ kind) × (kind ≤ 147))
    ⊎ ((149 ≤ kind) × (kind ≤ 150)) ⊎ (kind ≡ 152)

-- the kinds of the messages that hold a title, colours, pixels or dabs, the only ones that take
-- memory
abbrev pub TakesMemory : ℕ → Type 0
TakesMemory kind =
    (kind ≡ 130) ⊎ (kind ≡ 132) ⊎ (kind ≡ 136) ⊎ (kind ≡ 146) ⊎ (kind ≡ 149) ⊎ (kind ≡ 150)
