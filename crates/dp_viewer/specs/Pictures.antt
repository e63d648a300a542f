-- What a run leaves that writes a picture of its input.
use Rattle.std.specs.Prelude.{ℕ, List, [], Option, IfSome}
use Rattle.std.specs.Io.KnownBytes.{Appends, Keeps, IsAtEnd}
use Rattle.dp_io.specs.Streams.{GrowsByPrefix}
use Rattle.dp_messages.specs.declared.message.Entry.{Entry}
use Rattle.dp_replay.specs.Replay.{shown}
use Rattle.dp_plain.specs.Picture.{p6}
use Rattle.dp_lines.specs.declared.run_end.RunEnd.{RunEnd}
use Rattle.dp_lines.specs.declared.run_end.RunEnd.TheVariants.{Done, BadLine, ReadFault, WriteFault}
use Rattle.dp_lines.specs.declared.run_end.RunEnd.TheVariants.{LinkFault, Memory, Long, Truncated}
use Rattle.dp_lines.specs.declared.run_end.RunEnd.TheVariants.{BadMessage, Closed, BadHeader}
use Rattle.dp_viewer.specs.Ways.{Way}

-- what the output is due for an input of these entries and this end: the picture of those that are
-- shown if the input is read to its end, else nothing
abbrev pub picture_text : Way → List Entry → RunEnd → List ℕ
picture_text way entries Done = p6 (shown (way.shows entries))
picture_text way entries (Truncated n) = p6 (shown (way.shows entries))
picture_text way entries (BadLine n) = []
picture_text way entries ReadFault = []
picture_text way entries WriteFault = []
picture_text way entries LinkFault = []
picture_text way entries Memory = []
picture_text way entries Long = []
picture_text way entries (BadMessage n) = []
picture_text way entries Closed = []
picture_text way entries BadHeader = []

-- the output grew by the picture of what an input whose bytes are known shows, which comes to this
-- end
abbrev pub ShowsWhole : Way → Option (List ℕ) → Option (List ℕ) → Option (List ℕ) → RunEnd → Type 0
ShowsWhole way input old new end =
    IfSome input (λ bytes. (entries : List Entry) × way.comes bytes entries end
    × Appends old new (picture_text way entries end))

-- the output grew by a prefix of that picture
abbrev pub ShowsPart : Way → Option (List ℕ) → Option (List ℕ) → Option (List ℕ) → Type 0
ShowsPart way input old new =
    IfSome input (λ bytes. (entries : List Entry) × (end : RunEnd) × way.comes bytes entries end
    × GrowsByPrefix old new (picture_text way entries end))

-- An input whose bytes are known comes to this end, and what was taken of it stops there: it holds
-- no cause to end but for its last bytes, at most a piece of 4096.
abbrev pub StopsAtCause : Way → Option (List ℕ) → Option (List ℕ) → RunEnd → Type 0
StopsAtCause way input left end =
    IfSome input (λ bytes. ((entries : List Entry) × way.comes bytes entries end)
    × way.took 4096 bytes left)

-- What a run with this end leaves of an input and on the output: the picture of the entries of the
-- whole frames that are shown, a prefix of it, or nothing. If the input failed, what was taken of
-- it holds no cause.
abbrev pub PictureLeaves : Way → Option (List ℕ) → Option (List ℕ) → Option (List ℕ)
    → Option (List ℕ) → RunEnd → Type 0
PictureLeaves way input left old new Done = IsAtEnd left × ShowsWhole way input old new Done
PictureLeaves way input left old new (Truncated n) =
    IsAtEnd left × ShowsWhole way input old new (Truncated n)
PictureLeaves way input left old new WriteFault = IsAtEnd left × ShowsPart way input old new
PictureLeaves way input left old new ReadFault =
    Keeps old new × IfSome input (λ bytes. way.took 0 bytes left)
PictureLeaves way input left old new Memory = Keeps old new
PictureLeaves way input left old new Long = Keeps old new × StopsAtCause way input left Long
PictureLeaves way input left old new (BadMessage n) =
    Keeps old new × StopsAtCause way input left (BadMessage n)
PictureLeaves way input left old new BadHeader =
    way.may_lack × Keeps old new × StopsAtCause way input left BadHeader
PictureLeaves way input left old new (BadLine n) = ⊥
PictureLeaves way input left old new LinkFault = ⊥
PictureLeaves way input left old new Closed = ⊥
