-- What a connection may be sent: feeds.
use Rattle.std.specs.Prelude.{◌≡◌, ◌⊎◌, ℕ, ◌+◌, ◌<◌, ◌≤◌, List, [], ◌∷◌, ◌++◌, length, Option}
use Rattle.std.specs.Prelude.{None, Some, ⊤, Contains}
use Rattle.std.specs.List.{AllByRecursion, flat_map}
use mathlib.Core.List.{IsPrefix}
use Rattle.dp_messages.specs.declared.message.Entry.{Entry}
use Rattle.dp_epochs.specs.declared.connection.Ending.{Ending}
use Rattle.dp_epochs.specs.declared.connection.Ending.TheVariants as ending
use Rattle.dp_epochs.specs.declared.connection.Connection.{Connection}
use Rattle.dp_epochs.specs.State.{State, epoch_of, history_of, connection_of}
use Rattle.dp_epochs.specs.Past.{Past, state_of}

-- entries of an epoch, from its beginning on
pub record Segment : Type 0 where
  pub epoch : ℕ
  pub entries : List Entry

-- the epoch is there, and its history begins so
abbrev pub IsSegment : State → Segment → Type 0
IsSegment s segment =
    (segment.epoch ≤ epoch_of s) × IsPrefix segment.entries (history_of s segment.epoch)

-- the segment does not go past the Leave of a connection with this end
abbrev pub IsWithin : Ending → Segment → Type 0
IsWithin ending.Running segment = ⊤
IsWithin (ending.Left place) segment =
    (segment.epoch < place.epoch)
    ⊎ ((segment.epoch ≡ place.epoch) × (length segment.entries ≤ place.index + 1))
IsWithin ending.Shut segment = ⊤

-- the epochs of the segments rise strictly from above this one on
abbrev pub RisesAbove : ℕ → List Segment → Type 0
RisesAbove epoch [] = ⊤
RisesAbove epoch (segment ∷ segments) =
    (epoch < segment.epoch) × RisesAbove segment.epoch segments

-- there is a first segment, of this epoch, and from there the epochs rise
abbrev pub RisesFrom : ℕ → List Segment → Type 0
RisesFrom epoch [] = ⊥
RisesFrom epoch (segment ∷ segments) =
    (segment.epoch ≡ epoch) × RisesAbove segment.epoch segments

-- The segments are a feed of the connection of this number. The first one is of the epoch in which
-- the connection joined, and may be empty. The epochs rise. Each segment is a prefix of the history
-- of its epoch, and none goes past the connection's Leave.
pub record IsFeed (s : State) (conn : ℕ) (segments : List Segment) : Type 0 where
  pub connection : Connection
  pub is : connection_of s conn ≡ Some connection
  pub rises : RisesFrom connection.joined.epoch segments
  pub each : AllByRecursion (IsSegment s) segments
  pub within : AllByRecursion (IsWithin connection.ending) segments

-- the entries of the segments, in order
abbrev pub feed_entries : List Segment → List Entry
feed_entries segments = flat_map (λ segment. segment.entries) segments

-- By how the connection ended. The last segment ends with its Leave, or an epoch was opened after
-- the Leave, or the connection was closed without one.
abbrev pub EndsWith : State → Ending → Segment → Type 0
EndsWith s ending.Running last = ⊥
EndsWith s (ending.Left place) last =
    ((last.epoch ≡ place.epoch) × (length last.entries ≡ place.index + 1))
    ⊎ (place.epoch < epoch_of s)
EndsWith s ending.Shut last = ⊤

-- how the last segment of a connection ends, if the connection was given out
abbrev pub EndsWhere : State → Option Connection → Segment → Type 0
EndsWhere s None last = ⊥
EndsWhere s (Some connection) last = EndsWith s connection.ending last

-- Nothing is to come for the connection after this last segment: its Leave was sent or is in an
-- earlier epoch, or its Close was refused.
abbrev pub IsGone : Past → ℕ → Segment → Type 0
IsGone past conn last =
    Contains past.quiet conn ⊎ EndsWhere (state_of past) (connection_of (state_of past) conn) last

-- A Pull at the end of the feed with this last segment was answered by entries of an epoch from a
-- place on. It has led to another feed: these entries come after those so far.
pub record PullsOn (s : State) (conn : ℕ) (earlier : List Segment) (last : Segment)
    (epoch at : ℕ) (list : List Entry) : Type 0 where
  pub before : List Segment
  pub next : Segment
  pub feed : IsFeed s conn (before ++ next ∷ [])
  pub epoch_is : next.epoch ≡ epoch
  pub count : length next.entries ≡ at + length list
  pub entries : feed_entries (before ++ next ∷ []) ≡ feed_entries (earlier ++ last ∷ []) ++ list
