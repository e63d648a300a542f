-- Bytes as frames, one after the other, and a rest.
use Rattle.std.specs.Prelude.{◌≡◌, ℕ, ◌+◌, ◌<◌, ◌≤◌, ◌^◌, List, ◌∷◌, ◌++◌, length}
use Rattle.std.specs.Int.{w16, to_be_bytes}
use Rattle.std.specs.List.{AllByRecursion, flat_map}
use Rattle.byteorder.specs.Endian.{big_number}

-- a frame: its type, its context id and its payload
pub record FrameParts : Type 0 where
  pub kind : ℕ
  pub user : ℕ
  pub body : List ℕ

-- a payload has at most 65,535 bytes
abbrev pub IsFrame : FrameParts → Type 0
IsFrame f = length f.body < 2 ^ 16

-- the payload's length in two bytes, the type byte, the context byte, the payload
abbrev pub spelling : FrameParts → List ℕ
spelling f = to_be_bytes w16 (length f.body) ++ f.kind ∷ f.user ∷ f.body

-- no prefix of the bytes spells a frame
abbrev pub HoldsNoFrame : List ℕ → Type 0
HoldsNoFrame bytes = (f : FrameParts) (more : List ℕ) → IsFrame f → bytes ≡ spelling f ++ more → ⊥

-- the bytes are these frames one after the other, and then a rest that holds no whole frame
pub record Splits (bytes : List ℕ) (frames : List FrameParts) (rest : List ℕ) : Type 0 where
  pub whole : bytes ≡ flat_map spelling frames ++ rest
  pub each : AllByRecursion IsFrame frames
  pub partial : HoldsNoFrame rest

-- the bytes begin with a header, which has this many bytes together with the payload that it
-- announces, all of them there
pub record IsFrameLength (bytes : List ℕ) (len : ℕ) : Type 0 where
  pub header : 4 ≤ len
  pub present : len ≤ length bytes
  pub announced : len ≡ big_number 2 bytes + 4
