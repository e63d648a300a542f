-- What the program answers: its status, what it writes, and the line that it says.
use Rattle.std.specs.Prelude.{◌≡◌, ℕ, ◌⊎◌, List, [], ◌++◌, codes, decimal, Option}
use Rattle.std.specs.Io.KnownBytes.{Appends}
use Rattle.dp_io.specs.Faults.{Rose}
use Rattle.dp_io.specs.Streams.{GrowsByPrefix}
use Rattle.dp_lines.specs.declared.run_end.RunEnd.{RunEnd}
use Rattle.dp_lines.specs.declared.run_end.RunEnd.TheVariants.{Done, BadLine, ReadFault, WriteFault}
use Rattle.dp_lines.specs.declared.run_end.RunEnd.TheVariants.{LinkFault}
use Rattle.dp_lines.specs.declared.run_end.RunEnd.TheVariants.{Memory, Long, Truncated, BadMessage}
use Rattle.dp_lines.specs.declared.run_end.RunEnd.TheVariants.{Closed, BadHeader}

-- the status of a run with this end
abbrev pub status_of : RunEnd → ℕ
status_of Done = 0
status_of (BadLine n) = 2
status_of ReadFault = 3
status_of WriteFault = 4
status_of LinkFault = 5
status_of Memory = 7
status_of Long = 8
status_of (Truncated n) = 9
status_of (BadMessage n) = 10
status_of Closed = 11
status_of BadHeader = 12

-- the line that is said of it
abbrev pub line_of : RunEnd → List ℕ
line_of Done = []
line_of (BadLine n) = codes "bad line " ++ decimal n ++ codes "\n"
line_of ReadFault = codes "read fault\n"
line_of WriteFault = codes "write fault\n"
line_of LinkFault = codes "link fault\n"
line_of Memory = codes "out of memory\n"
line_of Long = codes "input too long\n"
line_of (Truncated n) = codes "truncated at " ++ decimal n ++ codes "\n"
line_of (BadMessage n) = codes "bad message at " ++ decimal n ++ codes "\n"
line_of Closed = codes "link closed\n"
line_of BadHeader = codes "bad header\n"

-- the line that is said of words that are no command
abbrev pub usage_line : List ℕ
usage_line = codes "usage: drawpile replay, world, play, join, serve or drill\n"

-- the line that is said if a command needs links, and the wires for them aren't there
abbrev pub no_link_line : List ℕ
no_link_line = codes "no link\n"

-- an answer: the status, the text on the output, and the line on diag
pub record Answer : Type 0 where
  pub status : ℕ
  pub text : List ℕ
  pub line : List ℕ

-- the answer of a run with this end and this text
abbrev pub answer_for : RunEnd → List ℕ → Answer
answer_for end text = record { status = status_of end; text = text; line = line_of end }

-- the answer to words that are no command
abbrev pub usage_answer : Answer
usage_answer = record { status = 1; text = []; line = usage_line }

-- the answer if a command needs links, and the wires for them aren't there
abbrev pub no_link_answer : Answer
no_link_answer = record { status = 13; text = []; line = no_link_line }

-- the answer is given: the exit status is its own, the output grew by its text, and diag by its
-- line
pub record IsGiven (answer : Answer) (code : ℕ) (output printed diag said : Option (List ℕ)) : Type
    0 where
  pub status : code ≡ answer.status
  pub text : Appends output printed answer.text
  pub line : Appends diag said answer.line

-- the line is said, and the status is this; or diag failed after a prefix of the line, and it is 4
abbrev pub SaysLine : ℕ → List ℕ → Option (List ℕ) → Option (List ℕ) → ℕ → ℕ → ℕ → Type 0
SaysLine code line old new before now status =
    ((status ≡ code) × Appends old new line)
    ⊎ ((status ≡ 4) × Rose before now × GrowsByPrefix old new line)

-- the line of the end is said, with its status
abbrev pub Says : Option (List ℕ) → Option (List ℕ) → ℕ → ℕ → ℕ → RunEnd → Type 0
Says old new before now status end =
    SaysLine (status_of end) (line_of end) old new before now status

-- the line about the words is said
abbrev pub SaysUsage : Option (List ℕ) → Option (List ℕ) → ℕ → ℕ → ℕ → Type 0
SaysUsage old new before now status = SaysLine 1 usage_line old new before now status

-- the line about the link is said
abbrev pub SaysNoLink : Option (List ℕ) → Option (List ℕ) → ℕ → ℕ → ℕ → Type 0
SaysNoLink old new before now status = SaysLine 13 no_link_line old new before now status
