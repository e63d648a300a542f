-- What a pull of the next entry answers.
use Rattle.std.specs.Prelude.{◌≡◌, ℕ, ◌+◌, List, ◌++◌, length, Option, ⊤}
use Rattle.std.specs.Io.KnownBytes.{IsAtEnd}
use Rattle.dp_io.specs.Faults.{Rose}
use Rattle.dp_frame.specs.Frames.{FrameParts, IsFrame, spelling}
use Rattle.dp_split.specs.Stream.{Stream}
use Rattle.dp_messages.specs.declared.message.Entry.{Entry}
use Rattle.dp_lines.specs.declared.run_end.RunEnd.TheVariants as run
use Rattle.dp_lines.specs.TakenParts.{TookWithin}
use Rattle.dp_entries.specs.declared.ends.ReadEnd.{ReadEnd}
use Rattle.dp_entries.specs.declared.ends.ReadEnd.TheVariants.{ReadFault, Truncated, BadMessage}
use Rattle.dp_entries.specs.declared.ends.ReadEnd.TheVariants.{Long, Memory}
use Rattle.dp_entries.specs.Input.{ComesTo, HoldsNoCause}

-- the first frame that is held is taken, and stands for the entry with `before` frames before it
pub record TakesEntry (MayStand : ℕ → FrameParts → Entry → Type 0) (before : ℕ)
    (old new : Stream) (entry : Entry) : Type 0 where
  pub frame : FrameParts
  pub fits : IsFrame frame
  pub held : old.held ≡ spelling frame ++ new.held
  pub at : new.at ≡ old.at + length (spelling frame)
  pub stands : MayStand before frame entry

-- the first frame that is held is taken, and may not stand with `before` frames before it, for this
-- cause
pub record TakesBad {C : Type 0} (IsCause : ℕ → FrameParts → C → Type 0) (before : ℕ)
    (old new : Stream) (cause : C) : Type 0 where
  pub frame : FrameParts
  pub fits : IsFrame frame
  pub held : old.held ≡ spelling frame ++ new.held
  pub at : new.at ≡ old.at + length (spelling frame)
  pub why : IsCause before frame cause

-- a frame of the input may not stand, for this cause: it begins at byte n, after `before` frames
pub record IsBadAt {C : Type 0} (IsCause : ℕ → FrameParts → C → Type 0) (input : List ℕ)
    (before n : ℕ) (cause : C) : Type 0 where
  pub frame : FrameParts
  pub prefix : List ℕ
  pub more : List ℕ
  pub whole : input ≡ prefix ++ (spelling frame ++ more)
  pub place : n ≡ length prefix
  pub why : IsCause before frame cause

-- What was taken holds no cause to end, but for the last bytes of it, at most `most`.
abbrev pub TookNoCause : (ℕ → FrameParts → Entry → Type 0) → ℕ → ℕ → ℕ → List ℕ → Option (List ℕ)
    → Type 0
TookNoCause MayStand first limit most input left =
    TookWithin (HoldsNoCause MayStand first limit) most input left

-- How reading an input ended of which these bytes are left, after these entries: by its bytes, with
-- a piece at most after what holds no cause; by a fault, with nothing after it; or because memory
-- ran out.
abbrev pub EndsReading : {C : Type 0} → (ℕ → FrameParts → Entry → Type 0)
    → (ℕ → FrameParts → C → Type 0) → ℕ → ℕ → List ℕ → Option (List ℕ) → List Entry → ReadEnd C
    → Type 0
EndsReading MayStand IsCause first limit input left entries ReadFault =
    TookNoCause MayStand first limit 0 input left
EndsReading MayStand IsCause first limit input left entries (Truncated n) =
    ComesTo MayStand first limit input entries (run.Truncated n) × IsAtEnd left
EndsReading MayStand IsCause first limit input left entries (BadMessage cause n) =
    ComesTo MayStand first limit input entries (run.BadMessage n)
    × TookNoCause MayStand first limit 4096 input left
    × IsBadAt IsCause input (length entries) n cause
EndsReading MayStand IsCause first limit input left entries Long =
    ComesTo MayStand first limit input entries run.Long
    × TookNoCause MayStand first limit 4096 input left
EndsReading MayStand IsCause first limit input left entries Memory = ⊤

-- the count of the input's faults if reading ended with this: a fault raised it, and else it stays
abbrev pub FaultMatchesReadEnd : {C : Type 0} → ℕ → ℕ → ReadEnd C → Type 0
FaultMatchesReadEnd before now ReadFault = Rose before now
FaultMatchesReadEnd before now (Truncated n) = now ≡ before
FaultMatchesReadEnd before now (BadMessage cause n) = now ≡ before
FaultMatchesReadEnd before now Long = now ≡ before
FaultMatchesReadEnd before now Memory = now ≡ before

-- the input is at its end if reading it ended inside a frame
abbrev pub EndsWithInput : {C : Type 0} → Option (List ℕ) → ReadEnd C → Type 0
EndsWithInput left (Truncated n) = IsAtEnd left
EndsWithInput left ReadFault = ⊤
EndsWithInput left (BadMessage cause n) = ⊤
EndsWithInput left Long = ⊤
EndsWithInput left Memory = ⊤
