-- The ways in which the program ends: the status of each, and the line that is said of it.
use Rattle.std.specs.Prelude.{ℕ, List, ◌++◌, codes, decimal}
use Rattle.dp_lines.specs.declared.run_end.RunEnd.TheVariants.{Memory}
use Rattle.dp_lines.specs.Hexadecimal.{hex_text}
use Rattle.dp_endings.specs.declared.ending.Ending.{Ending}
use Rattle.dp_endings.specs.declared.ending.Ending.TheVariants.{Usage, NoLink, NoWords, Run}
use Rattle.dp_endings.specs.declared.ending.Ending.TheVariants.{StoreFault, BadRow}
use Rattle.dp_endings.specs.Answer.{line_of, no_link_line, status_of, usage_line}

-- the program's status if it ends with this
abbrev pub code_of : Ending → ℕ
code_of Usage = 1
code_of NoLink = 13
code_of NoWords = status_of Memory
code_of (Run end) = status_of end
code_of StoreFault = 6
code_of (BadRow n row) = 14

-- the line that is said of a row that may not stand at this place
abbrev pub bad_row_line : ℕ → List ℕ → List ℕ
bad_row_line n bytes =
    (codes "bad row " ++ decimal n ++ codes " ") ++ hex_text bytes ++ codes "\n"

-- the line that is said of it
abbrev pub ending_line : Ending → List ℕ
ending_line Usage = usage_line
ending_line NoLink = no_link_line
ending_line NoWords = line_of Memory
ending_line (Run end) = line_of end
ending_line StoreFault = codes "store fault\n"
ending_line (BadRow n row) = bad_row_line n row.bytes
