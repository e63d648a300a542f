-- Entries as they are sent: their frames, one after another.
use Rattle.std.specs.Prelude.{◌≡◌, ◌≤◌, ◌⊎◌, ℕ, ◌+◌, List, [], ◌∷◌, ◌++◌, length}
use Rattle.std.specs.List.{flat_map, sum_by}
use Rattle.dp_messages.specs.declared.message.Entry.{Entry}
use Rattle.dp_messages.specs.Messages.{entry_bytes}

-- bytes, and the places where the frames in them end
pub record Frames : Type 0 where
  pub bytes : List ℕ
  pub ends : List ℕ

-- segments of frames: those that are full, and the last one
pub record Log : Type 0 where
  pub sealed : List Frames
  pub last : Frames

-- how many frames the full segments have
abbrev pub sealed_count : List Frames → ℕ
sealed_count sealed = sum_by (λ frames. length frames.ends) sealed

-- how many frames there are
abbrev pub frame_count : Log → ℕ
frame_count log = sealed_count log.sealed + length log.last.ends

-- the frames of entries
abbrev pub frames_of : List Entry → List ℕ
frames_of entries = flat_map entry_bytes entries

-- where the frame of each entry ends, if the first one begins at a place
abbrev pub ends_from : ℕ → List Entry → List ℕ
ends_from at [] = []
ends_from at (entry ∷ entries) =
    let end = at + length (entry_bytes entry) in end ∷ ends_from end entries

-- these are the frames of the entries
pub record AreFramesOf (frames : Frames) (entries : List Entry) : Type 0 where
  pub bytes : frames.bytes ≡ frames_of entries
  pub ends : frames.ends ≡ ends_from 0 entries

-- the frames of the entries stand in these segments
abbrev pub AreSealedOf : List Frames → List Entry → Type 0
AreSealedOf [] entries = entries ≡ []
AreSealedOf (first ∷ others) entries =
    (mine : List Entry) × (rest : List Entry) × AreFramesOf first mine
    × AreSealedOf others rest × (entries ≡ mine ++ rest)

-- the frames of the entries stand in the segments of the log
pub record AreLogOf (log : Log) (entries : List Entry) : Type 0 where
  pub before : List Entry
  pub rest : List Entry
  pub sealed : AreSealedOf log.sealed before
  pub last : AreFramesOf log.last rest
  pub all : entries ≡ before ++ rest

-- the most bytes of a page of several frames
abbrev pub page_limit : ℕ
page_limit = 262144

-- these are `count` frames: one, or no more bytes than a page may have
abbrev pub IsShort : ℕ → List ℕ → Type 0
IsShort count bytes = (count ≡ 1) ⊎ (length bytes ≤ page_limit)
