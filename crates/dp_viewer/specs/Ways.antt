-- How a command reads its input for a picture.
use Rattle.std.specs.Prelude.{ℕ, List, take, Option, Some, None, ⊤}
use Rattle.dp_messages.specs.declared.message.Entry.{Entry}
use Rattle.dp_lines.specs.declared.run_end.RunEnd.{RunEnd}
use Rattle.dp_entries.specs.Anywhere.{StandsAnywhere}
use Rattle.dp_entries.specs.Input.{ComesTo}
use Rattle.dp_entries.specs.Reading.{TookNoCause}
use Rattle.dp_recording.specs.Recordings.{RecordingComesTo, RecordingTook}
use Rattle.dp_io.specs.Limits.{stream_limit}

-- A way to read an input. First, what an input comes to. Then `took`: what was taken of one of
-- which these bytes are left holds no cause to end. Its last bytes, at most a number, may hold one.
-- Then which of the entries are shown, and whether an input may lack its header.
pub record Way : Type 1 where
  pub comes : List ℕ → List Entry → RunEnd → Type 0
  pub took : ℕ → List ℕ → Option (List ℕ) → Type 0
  pub shows : List Entry → List Entry
  pub may_lack : Type 0

-- what an input comes to for `replay`: frames from its first byte on, each of which may stand
-- wherever it is
abbrev pub ReplayComesTo : List ℕ → List Entry → RunEnd → Type 0
ReplayComesTo input entries end = ComesTo StandsAnywhere 0 stream_limit input entries end

-- the way of `replay`, which shows all entries
abbrev pub replay_way : Way
replay_way = record {
  comes = ReplayComesTo;
  took = TookNoCause StandsAnywhere 0 stream_limit;
  shows = λ entries. entries;
  may_lack = ⊥;
}

-- the first n entries, or all
abbrev pub first_of : Option ℕ → List Entry → List Entry
first_of None entries = entries
first_of (Some n) entries = take n entries

-- the way of `play`, which shows the first entries
abbrev pub play_way : Option ℕ → Way
play_way at = record {
  comes = RecordingComesTo;
  took = RecordingTook;
  shows = first_of at;
  may_lack = ⊤;
}
