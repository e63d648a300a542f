-- What an input of frames comes to: the entries that stand in it, and how it ends. What may stand
-- in an input is a relation of the number of frames before, a frame and its entry.
use Rattle.std.specs.Prelude.{◌≡◌, ◌≢◌, ℕ, ◌+◌, ◌<◌, ◌≤◌, List, [], ◌∷◌, ◌++◌, length, take}
use Rattle.std.specs.Prelude.{drop}
use Rattle.std.specs.Prelude.{⊤}
use Rattle.std.specs.List.{AllByRecursion, flat_map}
use Rattle.dp_frame.specs.Frames.{FrameParts, IsFrame, spelling, Splits}
use Rattle.dp_messages.specs.declared.message.Entry.{Entry}
use Rattle.dp_lines.specs.declared.run_end.RunEnd.{RunEnd}
use Rattle.dp_lines.specs.declared.run_end.RunEnd.TheVariants.{Done, BadLine, ReadFault, WriteFault}
use Rattle.dp_lines.specs.declared.run_end.RunEnd.TheVariants.{LinkFault, Memory, Long, Truncated}
use Rattle.dp_lines.specs.declared.run_end.RunEnd.TheVariants.{BadMessage, Closed, BadHeader}

-- the frames stand for the entries, one each, with this many frames before them
abbrev pub StandFor : (ℕ → FrameParts → Entry → Type 0) → ℕ → List FrameParts → List Entry → Type 0
StandFor MayStand before [] [] = ⊤
StandFor MayStand before [] (entry ∷ entries) = ⊥
StandFor MayStand before (frame ∷ frames) [] = ⊥
StandFor MayStand before (frame ∷ frames) (entry ∷ entries) =
    MayStand before frame entry × StandFor MayStand (before + 1) frames entries

-- the bytes are whole frames that stand for the entries, and then a rest that holds no whole frame
pub record Tells (MayStand : ℕ → FrameParts → Entry → Type 0) (bytes : List ℕ)
    (entries : List Entry) (rest : List ℕ) : Type 0 where
  pub frames : List FrameParts
  pub stand : StandFor MayStand 0 frames entries
  pub splits : Splits bytes frames rest

-- after whole frames that stand for the entries comes, n bytes on, a whole one that may not stand
-- there
pub record TellsUpTo (MayStand : ℕ → FrameParts → Entry → Type 0) (bytes : List ℕ)
    (entries : List Entry) (n : ℕ) : Type 0 where
  pub frames : List FrameParts
  pub bad : FrameParts
  pub more : List ℕ
  pub each : AllByRecursion IsFrame frames
  pub stand : StandFor MayStand 0 frames entries
  pub fits : IsFrame bad
  pub nothing : (entry : Entry) → MayStand (length frames) bad entry → ⊥
  pub whole : bytes ≡ flat_map spelling frames ++ (spelling bad ++ more)
  pub place : n ≡ length (flat_map spelling frames)

-- What an input comes to of which `limit` bytes count, and whose first frame begins at the byte
-- `first`. The earliest cause wins: the first frame that may not stand there, if it is whole within
-- the limit; then the limit; then an end inside a frame. The other ends don't come from the input's
-- bytes.
abbrev pub ComesTo : (ℕ → FrameParts → Entry → Type 0) → ℕ → ℕ → List ℕ → List Entry → RunEnd
    → Type 0
ComesTo MayStand first limit input entries Done =
    Tells MayStand (drop first input) entries [] × (length input ≤ limit)
ComesTo MayStand first limit input entries (Truncated n) =
    (rest : List ℕ) × Tells MayStand (drop first input) entries rest × (rest ≢ [])
    × (n + length rest ≡ length input) × (length input ≤ limit)
ComesTo MayStand first limit input entries (BadMessage n) =
    (after : ℕ) × TellsUpTo MayStand (drop first (take limit input)) entries after
    × (n ≡ first + after)
ComesTo MayStand first limit input entries Long =
    (rest : List ℕ) × Tells MayStand (drop first (take limit input)) entries rest
    × (limit < length input)
ComesTo MayStand first limit input entries ReadFault = ⊥
ComesTo MayStand first limit input entries WriteFault = ⊥
ComesTo MayStand first limit input entries LinkFault = ⊥
ComesTo MayStand first limit input entries Memory = ⊥
ComesTo MayStand first limit input entries (BadLine n) = ⊥
ComesTo MayStand first limit input entries Closed = ⊥
ComesTo MayStand first limit input entries BadHeader = ⊥

-- These bytes hold no cause to end. They are no more than count. After the first ones they are
-- whole frames that stand for entries, and a rest that holds no whole frame.
pub record HoldsNoCause (MayStand : ℕ → FrameParts → Entry → Type 0) (first limit : ℕ)
    (bytes : List ℕ) : Type 0 where
  pub entries : List Entry
  pub rest : List ℕ
  pub tells : Tells MayStand (drop first bytes) entries rest
  pub counts : length bytes ≤ limit
