-- A reader of entries, and what was read so far.
use Rattle.std.specs.Prelude.{◌≡◌, ℕ, ◌+◌, ◌-◌, ◌<◌, ◌≤◌, ◌↔◌, Bool, List, ◌++◌, length}
use Rattle.std.specs.Prelude.{Option, Some, if◌then◌else◌, true}
use Rattle.std.specs.List.{AllByRecursion, flat_map}
use Rattle.dp_frame.specs.Frames.{FrameParts, IsFrame, spelling}
use Rattle.dp_io.specs.Pieces.{TookPieces}
use Rattle.dp_split.specs.Stream.{Stream}
use Rattle.dp_messages.specs.declared.message.Entry.{Entry}
use Rattle.dp_entries.specs.Input.{StandFor, HoldsNoCause}

-- What clauses see of a reader: the byte at which the first frame begins, and how many bytes count.
-- Then the bytes that are held of those that count, and how many frames were taken. Last, whether
-- bytes were taken that don't count, and whether it has ended.
pub record Reader : Type 0 where
  pub first : ℕ
  pub limit : ℕ
  pub stream : Stream
  pub count : ℕ
  pub over : Bool
  pub ended : Bool

-- how many bytes more count
abbrev pub room_of : Reader → ℕ
room_of reader = reader.limit - reader.first - reader.stream.at - length reader.stream.held

-- a number that falls with each piece
abbrev pub measure_of : Reader → ℕ
measure_of reader = if reader.over then 0 else room_of reader + 1

-- what it holds is within the bytes that count
abbrev pub HoldsWithin : Reader → Type 0
HoldsWithin reader = reader.first + reader.stream.at + length reader.stream.held ≤ reader.limit

-- their first frame begins at one byte, and as many bytes count
pub record SameSource (old new : Reader) : Type 0 where
  pub first : new.first ≡ old.first
  pub limit : new.limit ≡ old.limit

-- and as many bytes were taken as frames; neither has ended, or both have
pub record SamePlace (old new : Reader) : Type 0 where
  pub first : new.first ≡ old.first
  pub limit : new.limit ≡ old.limit
  pub at : new.stream.at ≡ old.stream.at
  pub ended : new.ended ≡ old.ended

-- the bytes are this many frames that stand for the entries, and then what the splitter holds
pub record Follows (MayStand : ℕ → FrameParts → Entry → Type 0) (bytes : List ℕ)
    (entries : List Entry) (count : ℕ) (stream : Stream) : Type 0 where
  pub frames : List FrameParts
  pub each : AllByRecursion IsFrame frames
  pub stand : StandFor MayStand 0 frames entries
  pub many : count ≡ length frames
  pub whole : bytes ≡ flat_map spelling frames ++ stream.held
  pub at : stream.at ≡ length (flat_map spelling frames)

-- What was taken of an input of which these bytes are left: the bytes before the first frame, then
-- bytes that hold no cause to end, and then a piece. The bytes of it that count are fed, and the
-- fed bytes gave these entries.
pub record HasRead (MayStand : ℕ → FrameParts → Entry → Type 0) (input : List ℕ)
    (left : Option (List ℕ)) (entries : List Entry) (reader : Reader) : Type 0 where
  pub head : List ℕ
  pub earlier : List ℕ
  pub piece : List ℕ
  pub cut : List ℕ
  pub took : TookPieces reader.limit (Some input) left (head ++ earlier) piece cut
  pub place : length head ≡ reader.first
  pub follows : Follows MayStand (earlier ++ piece) entries reader.count reader.stream
  pub quiet : HoldsNoCause MayStand reader.first reader.limit (head ++ earlier)
  pub over : (reader.over ≡ true) ↔ (0 < length cut)
