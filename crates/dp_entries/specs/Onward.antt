-- What a reader gives from where a stream stands on: of the bytes that the stream holds, and of
-- those that are read after them, also if the source's bytes aren't known.
use Rattle.std.specs.Prelude.{◌≡◌, ℕ, ◌+◌, ◌-◌, ◌<◌, ◌≤◌, ◌↔◌, List, ◌++◌, length, take}
use Rattle.std.specs.Prelude.{Option, slice_index, ⊤, true}
use Rattle.std.specs.List.{AllByRecursion, flat_map}
use Rattle.std.specs.Io.KnownBytes.{Consumes}
use Rattle.dp_frame.specs.Frames.{FrameParts, IsFrame, spelling, HoldsNoFrame}
use Rattle.dp_split.specs.Stream.{Stream}
use Rattle.dp_messages.specs.declared.message.Entry.{Entry}
use Rattle.dp_entries.specs.declared.ends.ReadEnd.{ReadEnd}
use Rattle.dp_entries.specs.declared.ends.ReadEnd.TheVariants.{ReadFault, Truncated, BadMessage}
use Rattle.dp_entries.specs.declared.ends.ReadEnd.TheVariants.{Long, Memory}
use Rattle.dp_entries.specs.Input.{StandFor}
use Rattle.dp_entries.specs.Reader.{Follows, Reader}

-- ---- the bytes

-- those that count, of what the stream holds and of the bytes that were read after it
abbrev pub counted_from : ℕ → Stream → List ℕ → List ℕ
counted_from limit start read = take (limit - start.at) (start.held ++ read)

-- how many the stream has given so, with those before it
abbrev pub count_from : Stream → List ℕ → ℕ
count_from start read = start.at + length (start.held ++ read)

-- each is a byte
abbrev pub AreBytes : List ℕ → Type 0
AreBytes bytes = (k : ℕ) → slice_index bytes k < 256

-- how many bytes there are at most in a piece and in what holds no frame before it
abbrev pub most_in_piece : ℕ
most_in_piece = 65538 + 4096

-- If no whole frame was held, reading went no further than to the end of the piece with which
-- the first one was whole.
abbrev pub ReachesFew : Stream → Stream → Type 0
ReachesFew old new = AreBytes old.held → HoldsNoFrame old.held
    → new.at + length new.held ≤ old.at + most_in_piece

-- ---- what was read

-- What a reader read that began with this stream, of a source with this left of it: the bytes that
-- count are frames that stand for the entries that it gave, and then those that it holds.
pub record ReadOn (MayStand : ℕ → FrameParts → Entry → Type 0) (source left : Option (List ℕ))
    (start : Stream) (entries : List Entry) (reader : Reader) : Type 0 where
  pub read : List ℕ
  pub at : ℕ
  pub read_is : Consumes source left read
  pub follows :
      Follows MayStand (counted_from reader.limit start read) entries reader.count
      (record { held = reader.stream.held; at = at })
  pub first : reader.first ≡ 0
  pub place : reader.stream.at ≡ start.at + at
  pub over : (reader.over ≡ true) ↔ (reader.limit < count_from start read)

-- What was read to the end of reading. Of the bytes that count the first ones are frames that stand
-- for the entries. P holds of all that was read and of the rest.
pub record ReadOnTo (P : List ℕ → List ℕ → Type 0) (MayStand : ℕ → FrameParts → Entry → Type 0)
    (limit : ℕ) (source left : Option (List ℕ)) (start : Stream) (entries : List Entry) : Type 0
  where
    pub read : List ℕ
    pub rest : List ℕ
    pub frames : List FrameParts
    pub read_is : Consumes source left read
    pub each : AllByRecursion IsFrame frames
    pub stand : StandFor MayStand 0 frames entries
    pub whole : counted_from limit start read ≡ flat_map spelling frames ++ rest
    pub meets : P read rest

-- ---- the ends

-- the rest begins with a frame that may not stand with `before` frames before it, for this cause
pub record BeginsBad {C : Type 0} (IsCause : ℕ → FrameParts → C → Type 0) (before : ℕ)
    (rest : List ℕ) (cause : C) : Type 0 where
  pub frame : FrameParts
  pub more : List ℕ
  pub fits : IsFrame frame
  pub whole : rest ≡ spelling frame ++ more
  pub why : IsCause before frame cause

-- the rest holds no whole frame, and all bytes count
abbrev pub RestsWhole : ℕ → Stream → List ℕ → List ℕ → Type 0
RestsWhole limit start read rest = HoldsNoFrame rest × (count_from start read ≤ limit)

-- By how reading ended. Either the rest holds no whole frame, and all bytes count or others were
-- read. Or a frame may not stand, and begins at byte n of the stream.
abbrev pub RestsBy : {C : Type 0} → (ℕ → FrameParts → C → Type 0) → ℕ → Stream → ℕ → List ℕ
    → ReadEnd C → List ℕ → List ℕ → Type 0
RestsBy IsCause limit start before held ReadFault read rest = RestsWhole limit start read rest
RestsBy IsCause limit start before held (Truncated n) read rest = RestsWhole limit start read rest
RestsBy IsCause limit start before held (BadMessage cause n) read rest =
    BeginsBad IsCause before rest cause
    × (n + length rest ≡ start.at + length (counted_from limit start read))
RestsBy IsCause limit start before held Long read rest =
    HoldsNoFrame rest × (limit < count_from start read) × (rest ≡ held)
RestsBy IsCause limit start before held Memory read rest = ⊤

-- reading came to the end of the source
abbrev pub EndsOn : (ℕ → FrameParts → Entry → Type 0) → ℕ → Option (List ℕ) → Option (List ℕ)
    → Stream → List Entry → Type 0
EndsOn MayStand limit source left start entries =
    ReadOnTo (RestsWhole limit start) MayStand limit source left start entries

-- reading ended with this, with these bytes held
abbrev pub HaltsOn : {C : Type 0} → (ℕ → FrameParts → Entry → Type 0)
    → (ℕ → FrameParts → C → Type 0) → ℕ → Option (List ℕ) → Option (List ℕ) → Stream → List Entry
    → List ℕ → ReadEnd C → Type 0
HaltsOn MayStand IsCause limit source left start entries held end =
    ReadOnTo (RestsBy IsCause limit start (length entries) held end) MayStand limit source left
    start entries
