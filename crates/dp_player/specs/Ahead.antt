-- What is read of a recording ahead of what is drawn of it.
use Rattle.std.specs.Prelude.{◌≡◌, ℕ, ◌<◌, Bool, true, false, List, Option, IfSome}
use Rattle.std.specs.Io.KnownBytes.{IsAtEnd}
use Rattle.dp_msg_draw.specs.declared.draw.Draw.{Draw}
use Rattle.dp_lines.specs.declared.run_end.RunEnd.{RunEnd}
use Rattle.dp_lines.specs.declared.run_end.RunEnd.TheVariants.{Memory}
use Rattle.dp_plain.specs.Board.{Board}
use Rattle.dp_recording.specs.Recordings.{GoesOn, measure_of}
use Rattle.dp_trailing.specs.Trailing.{Trailing}
use Rattle.dp_player.specs.declared.ahead.Ahead.{Ahead}
use Rattle.dp_player.specs.declared.ahead.Batch.{Batch}
use Rattle.dp_player.specs.declared.ahead.Batch.TheVariants.{More, Ended}
use Rattle.dp_viewer.specs.Ways.{play_way}
use Rattle.dp_viewer.specs.Reading.{EndsReading, FaultMatchesWay, ReadsToEnd, ShowsFirst}

-- with another board in the place of its own
abbrev pub on_board : Board → Trailing Board Draw → Trailing Board Draw
on_board on t = record t { board = on }

-- the board that trails after an entry: the one that did, or after a mark of a reset the blank one
-- that is held
abbrev pub board_after : Bool → Board → Trailing Board Draw → Board
board_after false on t = on
board_after true on t = t.board

-- what was read of an input (`ShowsFirst`), where another board trails
abbrev pub ShowsFirstOn : Option ℕ → Option (List ℕ) → Option (List ℕ) → Board → Ahead → Type 0
ShowsFirstOn at input left on a = ShowsFirst at input left (on_board on a.board) a.due a.reader

-- A batch of entries was read, the last one a mark of a reset or not. Before it `left` was left of
-- the input, which had failed `before` times; by `now` and `after` it tells how it is then.
pub record ReadsBatch (left now : Option (List ℕ)) (before after : ℕ) (old new : Ahead)
    (marked : Bool) : Type 0 where
  pub shown : (at : Option ℕ) (input : Option (List ℕ)) (on : Board)
      → ShowsFirstOn at input left on old
      → ShowsFirstOn at input now (board_after marked on new.board) new
  pub further : measure_of new.reader < measure_of old.reader
  pub goes_on : GoesOn new.reader
  pub kept : after ≡ before

-- reading ended so in a batch
pub record EndsInBatch (left now : Option (List ℕ)) (before after : ℕ) (old new : Ahead)
    (end : RunEnd) : Type 0 where
  pub told : (at : Option ℕ) (input : Option (List ℕ)) (on : Board)
      → ShowsFirstOn at input left on old
      → IfSome input (λ bytes. EndsReading (play_way at) bytes now (on_board on new.board) end)
  pub fault : (at : Option ℕ) → GoesOn old.reader → FaultMatchesWay (play_way at) before after end
  pub to_end : GoesOn old.reader → ReadsToEnd end → IsAtEnd now

-- by how the batch ended
abbrev pub EndsBatch : Option (List ℕ) → Option (List ℕ) → ℕ → ℕ → Ahead → Ahead → Batch → Type 0
EndsBatch left now before after old new (More marked) =
    ReadsBatch left now before after old new marked
EndsBatch left now before after old new (Ended end) =
    EndsInBatch left now before after old new end

-- How playing ends if reading ended so, and the acts before that were drawn or not. If they
-- weren't, memory ran out, but an end before the input's stands.
pub record EndsAfter (drawn : Bool) (given end : RunEnd) : Type 0 where
  pub kept : drawn ≡ true → end ≡ given
  pub memory : drawn ≡ false → ReadsToEnd given → end ≡ Memory
  pub early : drawn ≡ false → (ReadsToEnd given → ⊥) → end ≡ given
