-- What was read of an input, and what is written of it.
use Rattle.std.specs.Prelude.{◌≡◌, ◌⊎◌, ℕ, ◌-◌, nat_lt, Bool, true, List, length, map, ⊤}
use Rattle.std.specs.Prelude.{Option, Some, None, IfSome}
use Rattle.std.specs.Io.KnownBytes.{Appends, Keeps}
use Rattle.std.specs.List.{after_last}
use Rattle.std.specs.Option.{option_map}
use Rattle.dp_io.specs.Faults.{Rose}
use Rattle.dp_io.specs.Streams.{GrowsByPrefix}
use Rattle.dp_messages.specs.declared.message.Entry.{Entry}
use Rattle.dp_msg_draw.specs.declared.draw.Draw.{Draw}
use Rattle.dp_plain.specs.Board.{Board, empty_board}
use Rattle.dp_plain.specs.Commands.{draw}
use Rattle.dp_replay.specs.Replay.{is_mark, shown, undo_depth, user_act_of}
use Rattle.dp_plain.specs.Picture.{p6}
use Rattle.dp_lines.specs.declared.run_end.RunEnd.{RunEnd}
use Rattle.dp_lines.specs.declared.run_end.RunEnd.TheVariants.{Done, BadLine, ReadFault, WriteFault}
use Rattle.dp_lines.specs.declared.run_end.RunEnd.TheVariants.{LinkFault, Memory, Long, Truncated}
use Rattle.dp_lines.specs.declared.run_end.RunEnd.TheVariants.{BadMessage, Closed, BadHeader}
use Rattle.dp_recording.specs.declared.reader.Phase.{Phase}
use Rattle.dp_recording.specs.Recordings.{HasReadOf}
use Rattle.dp_trailing.specs.Trailing.{Trailing, Trails}
use Rattle.dp_viewer.specs.Ways.{Way, first_of}

-- the board trails what these entries show: those after the last mark of a reset, from the empty
-- board on
abbrev pub TrailsShown : Trailing Board Draw → List Entry → Type 0
TrailsShown board entries =
    Trails draw empty_board undo_depth (map user_act_of (after_last is_mark entries)) board

-- how many of the first `at` entries are left to show after others, or all
abbrev pub AreDue : Option ℕ → List Entry → Option ℕ → Type 0
AreDue at entries due = due ≡ option_map (λ n. n - length entries) at

-- whether one more entry is to be shown, by how many are left to show, or all
abbrev pub is_due : Option ℕ → Bool
is_due None = true
is_due (Some n) = nat_lt 0 n

-- What was read of an input whose bytes are known, of which those are left: the board trails what
-- the first entries show, so many or all, of those that a reader gave, and `due` are left to show.
abbrev pub ShowsFirst : Option ℕ → Option (List ℕ) → Option (List ℕ) → Trailing Board Draw
    → Option ℕ → Phase → Type 0
ShowsFirst at input left board due reader =
    IfSome input (λ bytes. (all : List Entry) × HasReadOf bytes left all reader
    × TrailsShown board (first_of at all) × AreDue at all due)

-- How reading an input ended of which these bytes are left, if the board trails what it shows:
-- by its bytes, with a piece at most after what holds no cause; by a fault, with nothing after it;
-- or because memory ran out.
abbrev pub EndsReading : Way → List ℕ → Option (List ℕ) → Trailing Board Draw → RunEnd → Type 0
EndsReading way input left board Done =
    (entries : List Entry) × way.comes input entries Done × TrailsShown board (way.shows entries)
EndsReading way input left board (Truncated n) =
    (entries : List Entry) × way.comes input entries (Truncated n)
    × TrailsShown board (way.shows entries)
EndsReading way input left board ReadFault = way.took 0 input left
EndsReading way input left board Memory = ⊤
EndsReading way input left board Long =
    ((entries : List Entry) × way.comes input entries Long) × way.took 4096 input left
EndsReading way input left board (BadMessage n) =
    ((entries : List Entry) × way.comes input entries (BadMessage n)) × way.took 4096 input left
EndsReading way input left board BadHeader =
    ((entries : List Entry) × way.comes input entries BadHeader) × way.took 4096 input left
EndsReading way input left board (BadLine n) = ⊥
EndsReading way input left board WriteFault = ⊥
EndsReading way input left board LinkFault = ⊥
EndsReading way input left board Closed = ⊥

-- the count of the input's faults after reading with this end: a fault raised it, and else it
-- stays; reading ends in no other way
abbrev pub FaultMatchesWay : Way → ℕ → ℕ → RunEnd → Type 0
FaultMatchesWay way before now Done = now ≡ before
FaultMatchesWay way before now ReadFault = Rose before now
FaultMatchesWay way before now Memory = now ≡ before
FaultMatchesWay way before now Long = now ≡ before
FaultMatchesWay way before now (Truncated n) = now ≡ before
FaultMatchesWay way before now (BadMessage n) = now ≡ before
FaultMatchesWay way before now BadHeader = way.may_lack × (now ≡ before)
FaultMatchesWay way before now (BadLine n) = ⊥
FaultMatchesWay way before now WriteFault = ⊥
FaultMatchesWay way before now LinkFault = ⊥
FaultMatchesWay way before now Closed = ⊥

-- the input is read to its end
abbrev pub ReadsToEnd : RunEnd → Type 0
ReadsToEnd Done = ⊤
ReadsToEnd (Truncated n) = ⊤
ReadsToEnd ReadFault = ⊥
ReadsToEnd Memory = ⊥
ReadsToEnd Long = ⊥
ReadsToEnd (BadMessage n) = ⊥
ReadsToEnd (BadLine n) = ⊥
ReadsToEnd WriteFault = ⊥
ReadsToEnd LinkFault = ⊥
ReadsToEnd Closed = ⊥
ReadsToEnd BadHeader = ⊥

-- The picture of what the board trails was written and the run ends as given. Or the output failed
-- after a prefix of it, or memory ran out before it.
abbrev pub WritesShown : Option (List ℕ) → Option (List ℕ) → ℕ → ℕ → Trailing Board Draw → RunEnd
    → RunEnd → Type 0
WritesShown old new before now board given end =
    ((end ≡ given) × ((entries : List Entry) → TrailsShown board entries
    → Appends old new (p6 (shown entries))) × (now ≡ before))
    ⊎ ((end ≡ WriteFault) × ((entries : List Entry) → TrailsShown board entries
    → GrowsByPrefix old new (p6 (shown entries))) × Rose before now)
    ⊎ ((end ≡ Memory) × Keeps old new × (now ≡ before))
