-- What a recording comes to, and what was read of one.
use Rattle.std.specs.Prelude.{◌≡◌, ◌⊎◌, ◌≤◌, ℕ, ◌+◌, ◌-◌, List, [], ◌++◌, length}
use Rattle.std.specs.Prelude.{Option, Some, true, ⊤}
use Rattle.std.specs.Io.KnownBytes.{IsAtEnd}
use Rattle.dp_io.specs.Faults.{Rose}
use Rattle.std.specs.List.{flat_map}
use Rattle.dp_frame.specs.Frames.{FrameParts}
use Rattle.dp_messages.specs.Messages.{entry_bytes}
use Rattle.dp_messages.specs.declared.message.Entry.{Entry}
use Rattle.dp_lines.specs.declared.run_end.RunEnd.{RunEnd}
use Rattle.dp_lines.specs.declared.run_end.RunEnd.TheVariants as run
use Rattle.dp_lines.specs.TakenParts.{TookWithin}
use Rattle.dp_entries.specs.declared.ends.ReadEnd.{ReadEnd}
use Rattle.dp_entries.specs.declared.ends.ReadEnd.TheVariants as read
use Rattle.dp_messages.specs.declared.decoder.DecodeError.{DecodeError}
use Rattle.dp_entries.specs.Anywhere.{IsCauseAnywhere, IsCauseLifted, StandsAnywhere, StandsLifted}
use Rattle.dp_entries.specs.Input.{ComesTo}
use Rattle.dp_entries.specs.Reader.{HasRead, Reader}
use Rattle.dp_entries.specs.Reading.{IsBadAt, TookNoCause}
use Rattle.dp_recording.specs.declared.reader.RecError.{RecError}
use Rattle.dp_recording.specs.declared.reader.RecError.TheVariants.{BadHeader, Truncated, Message}
use Rattle.dp_recording.specs.declared.reader.RecError.TheVariants.{ReadFault, Long, Memory}
use Rattle.dp_recording.specs.declared.reader.Phase.{Phase}
use Rattle.dp_recording.specs.declared.reader.Phase.TheVariants.{New, Lifting, Reading, Finished}
use Rattle.dp_recording.specs.declared.reader.Phase.TheVariants.{Failed}
use Rattle.dp_recording.specs.declared.header.Profile.{Profile}
use Rattle.dp_recording.specs.declared.header.Profile.TheVariants.{First, Second}
use Rattle.dp_recording.specs.Headers.{HasNoHeader, IsHeader, IsShort, header_bytes}
use Rattle.dp_io.specs.Limits.{stream_limit}

-- which frames may stand in a recording of this profile, and for which entries
abbrev pub stands_in : Profile → ℕ → FrameParts → Entry → Type 0
stands_in First = StandsLifted
stands_in Second = StandsAnywhere

-- and for which cause no other may
abbrev pub cause_in : Profile → ℕ → FrameParts → DecodeError → Type 0
cause_in First = IsCauseLifted
cause_in Second = IsCauseAnywhere

-- What an input comes to as a recording: it begins with no header, or what comes after its header
-- comes to that end, by the profile that the header tells.
abbrev pub RecordingComesTo : List ℕ → List Entry → RunEnd → Type 0
RecordingComesTo input entries run.BadHeader = (entries ≡ []) × HasNoHeader input
RecordingComesTo input entries end =
    (profile : Profile) × (len : ℕ) × IsHeader input profile len
    × ComesTo (stands_in profile) len stream_limit input entries end

-- the bytes of a recording that is written of these entries
abbrev pub recording : List Entry → List ℕ
recording entries = header_bytes ++ flat_map entry_bytes entries

-- why reading ended after a header
abbrev pub error_of : ReadEnd DecodeError → RecError
error_of read.ReadFault = ReadFault
error_of (read.Truncated at) = Truncated at
error_of (read.BadMessage why at) = Message at why
error_of read.Long = Long
error_of read.Memory = Memory

-- the end of a run for which reading its recording ended with this
abbrev pub end_of : RecError → RunEnd
end_of BadHeader = run.BadHeader
end_of (Truncated at) = run.Truncated at
end_of (Message at why) = run.BadMessage at
end_of ReadFault = run.ReadFault
end_of Long = run.Long
end_of Memory = run.Memory

-- What was taken of an input of which these bytes are left holds no cause to end. Its last bytes,
-- at most `most`, may hold one. It is too few bytes for a header, or a header, and then bytes that
-- hold none.
abbrev pub RecordingTook : ℕ → List ℕ → Option (List ℕ) → Type 0
RecordingTook most input left =
    TookWithin IsShort most input left
    ⊎ ((profile : Profile) × (len : ℕ) × IsHeader input profile len
    × TookNoCause (stands_in profile) len stream_limit most input left)

-- a frame of the recording may not stand by its profile, for this cause: it begins at byte n, after
-- `before` frames
abbrev pub IsBadFrame : List ℕ → ℕ → ℕ → DecodeError → Type 0
IsBadFrame input before n cause =
    (profile : Profile) × (len : ℕ) × IsHeader input profile len
    × IsBadAt (cause_in profile) input before n cause

-- How reading an input ended of which these bytes are left, after these entries: by its bytes, with
-- a piece at most after what holds no cause; by a fault, with nothing after it; or because memory
-- ran out.
abbrev pub EndsRecording : List ℕ → Option (List ℕ) → List Entry → RecError → Type 0
EndsRecording input left entries BadHeader =
    RecordingComesTo input entries run.BadHeader × RecordingTook 4096 input left
EndsRecording input left entries ReadFault = RecordingTook 0 input left
EndsRecording input left entries (Truncated at) =
    RecordingComesTo input entries (run.Truncated at) × IsAtEnd left
EndsRecording input left entries (Message at why) =
    RecordingComesTo input entries (run.BadMessage at) × RecordingTook 4096 input left
    × IsBadFrame input (length entries) at why
EndsRecording input left entries Long =
    RecordingComesTo input entries run.Long × RecordingTook 4096 input left
EndsRecording input left entries Memory = ⊤

-- how reading ended before the header was whole
abbrev pub EndsEarly : List ℕ → Option (List ℕ) → RecError → Type 0
EndsEarly input left BadHeader = HasNoHeader input × TookWithin IsShort 4096 input left
EndsEarly input left ReadFault = TookWithin IsShort 0 input left
EndsEarly input left Memory = ⊤
EndsEarly input left (Truncated at) = ⊥
EndsEarly input left (Message at why) = ⊥
EndsEarly input left Long = ⊥

-- a number that falls with each entry
abbrev pub measure_of : Phase → ℕ
measure_of New = stream_limit + 1
measure_of (Lifting reader) = reader.limit - reader.stream.at
measure_of (Reading reader) = reader.limit - reader.stream.at
measure_of Finished = 0
measure_of (Failed error) = 0

-- it reads the entries after the header
abbrev pub IsReading : Phase → Type 0
IsReading New = ⊥
IsReading (Lifting reader) = ⊤
IsReading (Reading reader) = ⊤
IsReading Finished = ⊥
IsReading (Failed error) = ⊥

-- how many bytes count of what a reader reads
abbrev pub limit_of : Phase → ℕ
limit_of New = stream_limit
limit_of (Lifting reader) = reader.limit
limit_of (Reading reader) = reader.limit
limit_of Finished = 0
limit_of (Failed error) = 0

-- it has not ended
abbrev pub GoesOn : Phase → Type 0
GoesOn New = ⊤
GoesOn (Lifting reader) = ¬ (reader.ended ≡ true)
GoesOn (Reading reader) = ¬ (reader.ended ≡ true)
GoesOn Finished = ⊥
GoesOn (Failed error) = ⊥

-- the input is at its end if reading it ended inside a frame
abbrev pub EndsWithInput : Option (List ℕ) → RecError → Type 0
EndsWithInput left (Truncated at) = IsAtEnd left
EndsWithInput left BadHeader = ⊤
EndsWithInput left ReadFault = ⊤
EndsWithInput left (Message at why) = ⊤
EndsWithInput left Long = ⊤
EndsWithInput left Memory = ⊤

-- What was read of an input of which these bytes are left, and what entries it gave: a header of
-- this profile, and then frames that may stand so.
abbrev pub HasReadAfter : Profile → (ℕ → FrameParts → Entry → Type 0) → List ℕ → Option (List ℕ)
    → List Entry → Reader → Type 0
HasReadAfter profile MayStand input left entries reader =
    IsHeader input profile reader.first × (reader.limit ≡ stream_limit) × ¬ (reader.ended ≡ true)
    × HasRead MayStand input left entries reader

-- What was read of an input of which these bytes are left, and what entries it gave: nothing was
-- read; a header, and entries after it; all of it; or reading it ended with an error.
abbrev pub HasReadOf : List ℕ → Option (List ℕ) → List Entry → Phase → Type 0
HasReadOf input left entries New = (left ≡ Some input) × (entries ≡ [])
HasReadOf input left entries (Lifting reader) =
    HasReadAfter First (stands_in First) input left entries reader
HasReadOf input left entries (Reading reader) =
    HasReadAfter Second (stands_in Second) input left entries reader
HasReadOf input left entries Finished = RecordingComesTo input entries run.Done × IsAtEnd left
HasReadOf input left entries (Failed error) = EndsRecording input left entries error

-- These bytes are held of an input of which those are left: too few for a header, and then a piece.
pub record HoldsHeader (input : List ℕ) (left : Option (List ℕ)) (held : List ℕ) : Type 0 where
  pub short : List ℕ
  pub piece : List ℕ
  pub untaken : List ℕ
  pub whole : input ≡ held ++ untaken
  pub left_is : left ≡ Some untaken
  pub split : held ≡ short ++ piece
  pub few : IsShort short
  pub small : length piece ≤ 4096

-- the count of the input's faults if reading ended with this: a fault raised it, and else it stays
abbrev pub FaultMatchesError : ℕ → ℕ → RecError → Type 0
FaultMatchesError before now ReadFault = Rose before now
FaultMatchesError before now BadHeader = now ≡ before
FaultMatchesError before now (Truncated at) = now ≡ before
FaultMatchesError before now (Message at why) = now ≡ before
FaultMatchesError before now Long = now ≡ before
FaultMatchesError before now Memory = now ≡ before
