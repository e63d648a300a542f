-- What the calls of a reader of a recording say of themselves. By `left` and `before` of the input
-- and by `old` they tell how it was before the call: what was left of it, how often it had failed,
-- and how far the reader was; by `now`, `after` and `new` how it is then.
use Rattle.std.specs.Prelude.{◌≡◌, ◌⊎◌, ◌<◌, ◌≤◌, ℕ, List, [], ◌∷◌, ◌++◌, Option, Some, None}
use Rattle.std.specs.Prelude.{Result, Ok, Err}
use Rattle.std.specs.Io.KnownBytes.{IsAtEnd}
use Rattle.dp_io.specs.Limits.{stream_limit}
use Rattle.dp_messages.specs.declared.message.Entry.{Entry}
use Rattle.dp_recording.specs.declared.reader.Phase.{Phase}
use Rattle.dp_recording.specs.declared.reader.Phase.TheVariants.{Finished, Failed}
use Rattle.dp_recording.specs.declared.reader.RecError.{RecError}
use Rattle.dp_recording.specs.Recordings.{EndsEarly, EndsRecording, EndsWithInput, GoesOn}
use Rattle.dp_recording.specs.Recordings.{FaultMatchesError, HasReadOf, IsReading, limit_of}
use Rattle.dp_recording.specs.Recordings.{measure_of}

-- the cause of an end is of this call: the input's end if it ended inside a frame, or a fault
-- that was counted if it is a fault
pub record IsOfCall (now : Option (List ℕ)) (before after : ℕ) (error : RecError) : Type 0 where
  pub inside : EndsWithInput now error
  pub fault : FaultMatchesError before after error

-- ---- a call that reads the header

-- the header is whole
pub record BeginsReading (left now : Option (List ℕ)) (before after : ℕ) (new : Phase) : Type 0
  where
    pub read : (bytes : List ℕ) → left ≡ Some bytes → HasReadOf bytes now [] new
    pub reading : IsReading new
    pub limit : limit_of new ≡ stream_limit
    pub goes_on : GoesOn new
    pub kept : after ≡ before

-- reading ended with this before
pub record StopsEarly (left now : Option (List ℕ)) (before after : ℕ) (error : RecError) : Type 0
  where
    pub ends : (bytes : List ℕ) → left ≡ Some bytes → EndsEarly bytes now error
    pub cause : IsOfCall now before after error

-- ---- a call that pulls an entry

-- It gives this one: what was read goes on by it, and the reader goes on.
pub record GivesNext (left now : Option (List ℕ)) (before after : ℕ) (old new : Phase)
    (entry : Entry) : Type 0 where
  pub read :
      (bytes : List ℕ) (entries : List Entry) → HasReadOf bytes left entries old
      → HasReadOf bytes now (entries ++ entry ∷ []) new
  pub further : measure_of new < measure_of old
  pub within : measure_of new ≤ limit_of old
  pub goes_on : GoesOn new
  pub kept : after ≡ before

-- It gives none: the recording came to its end, and the reader has ended.
pub record FindsNone (left now : Option (List ℕ)) (before after : ℕ) (old new : Phase) : Type 0
  where
    pub read :
        (bytes : List ℕ) (entries : List Entry) → HasReadOf bytes left entries old
        → HasReadOf bytes now entries Finished
    pub at_end : GoesOn old → IsAtEnd now
    pub finished : new ≡ Finished
    pub kept : after ≡ before

-- Reading ended with this, and the reader has ended: by an earlier call, or by this one.
pub record StopsReading (left now : Option (List ℕ)) (before after : ℕ) (old new : Phase)
    (error : RecError) : Type 0 where
  pub ends :
      (bytes : List ℕ) (entries : List Entry) → HasReadOf bytes left entries old
      → EndsRecording bytes now entries error
  pub failed : new ≡ Failed error
  pub cause : (old ≡ Failed error) ⊎ IsOfCall now before after error

-- by what it answers
abbrev pub PullsNext : Option (List ℕ) → Option (List ℕ) → ℕ → ℕ → Phase → Phase
    → Result (Option Entry) RecError → Type 0
PullsNext left now before after old new (Ok (Some entry)) =
    GivesNext left now before after old new entry
PullsNext left now before after old new (Ok None) = FindsNone left now before after old new
PullsNext left now before after old new (Err error) =
    StopsReading left now before after old new error

-- a reader that has ended answers as before, and reads nothing
pub record AnswersAgain (left now : Option (List ℕ)) (before after : ℕ) (old : Phase)
    (result : Result (Option Entry) RecError) : Type 0 where
  pub failed :
      (error : RecError) → old ≡ Failed error
      → (result ≡ Err error) × (now ≡ left) × (after ≡ before)
  pub finished : old ≡ Finished → (result ≡ Ok None) × (now ≡ left) × (after ≡ before)
