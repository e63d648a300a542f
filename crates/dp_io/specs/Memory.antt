-- Sources and sinks in memory, as clauses see them.
use Rattle.std.specs.Prelude.{◌≡◌, ℕ, ◌-◌, ◌<◌, ◌⊎◌, min, List, length}
use Rattle.dp_io.specs.Faults.{Failures, IsDue}

-- a `MemSource`: the bytes that are left, the most that a call gives, and the calls that fail
pub record SourceState : Type 0 where
  pub left : List ℕ
  pub piece : ℕ
  pub plan : Failures

-- a `MemSink`: the bytes that it holds, the most that it may hold, the most that a call takes, and
-- the calls that fail
pub record SinkState : Type 0 where
  pub held : List ℕ
  pub room : ℕ
  pub piece : ℕ
  pub plan : Failures

-- how many bytes a read into a buffer of this length gives
abbrev pub given_count : SourceState → ℕ → ℕ
given_count source room = min (min (length source.left) source.piece) room

-- how many of this many bytes a write takes
abbrev pub taken_count : SinkState → ℕ → ℕ
taken_count sink count = min (min (sink.room - length sink.held) sink.piece) count

-- A write of this many bytes fails: the call is to fail, or there are bytes and no room for any.
abbrev pub IsWriteRefused : SinkState → ℕ → Type 0
IsWriteRefused sink count = IsDue sink.plan ⊎ ((0 < count) × (length sink.held ≡ sink.room))
