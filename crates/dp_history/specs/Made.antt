-- The frames that were made of a history.
use Rattle.std.specs.Prelude.{◌-◌, ◌≤◌, ℕ, if◌then◌else◌, nat_lt}
use Rattle.std.specs.Prelude.{List, [], length, take, drop, Result, Ok, Err}
use Rattle.std.specs.List.{filter}
use Rattle.dp_messages.specs.declared.message.Entry.{Entry}
use Rattle.dp_acl.specs.Opening.{goes_over}
use Rattle.dp_history.specs.declared.frames.HistoryFrames.{HistoryFrames}
use Rattle.dp_frame_log.specs.Frames.{Log, AreLogOf, frame_count}
use Rattle.dp_history.specs.Frames.{AreWritten}

-- they are those of the first entries before a place, and of the first from that place on
pub record AreMadeOf (frames : HistoryFrames) (history : List Entry) : Type 0 where
  pub within : frames.base ≤ length history
  pub front : AreWritten frames.front (take frames.base history)
  pub rest : AreWritten frames.rest (drop frames.base history)

-- how many were made one after another from a place on
abbrev pub made_at : HistoryFrames → ℕ → ℕ
made_at frames at =
    if nat_lt at frames.base
    then frame_count frames.front - at
    else frame_count frames.rest - (at - frames.base)

-- the entries that go over into the next epoch
abbrev pub going_over : List Entry → List Entry
going_over entries = filter (λ entry. goes_over entry.msg) entries

-- by what came of keeping frames: the log has those of these entries, or if memory ran out those
-- of the first of them
abbrev pub WereKept : {T E : Type 0} → Result T E → Log → List Entry → Type 0
WereKept (Ok done) log entries = AreLogOf log entries
WereKept (Err e) log entries = AreWritten log entries

-- Of the frames that were made from a place on, those of entries that go over are kept, as far as
-- memory goes. They stand from a place of their own on, and there is none before them.
pub record AreKept {T E : Type 0} (result : Result T E) (old : HistoryFrames) (at : ℕ)
    (written : List Entry) (new : HistoryFrames) : Type 0 where
  pub none : AreLogOf new.front []
  pub kept : WereKept result new.rest (going_over (drop (at - old.base) written))
