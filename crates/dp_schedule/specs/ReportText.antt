-- The lines that are printed.
use Rattle.std.specs.Prelude.{ℕ, List, ◌++◌, codes, decimal}
use Rattle.dp_schedule.specs.declared.report_line.ReportLine.{ReportLine}
use Rattle.dp_schedule.specs.declared.report_line.ReportLine.TheVariants.{Joined, Full, NameRefused}
use Rattle.dp_schedule.specs.declared.report_line.ReportLine.TheVariants.{Ended, Said, Sent, Empty}
use Rattle.dp_schedule.specs.declared.report_line.ReportLine.TheVariants.{Placed}
use Rattle.dp_schedule.specs.declared.report_line.ReportLine.TheVariants.{Filtered, Ignored, Noted}
use Rattle.dp_schedule.specs.declared.report_line.ReportLine.TheVariants.{Left, Leaving, Cut, Took}
use Rattle.dp_schedule.specs.declared.report_line.ReportLine.TheVariants.{Nothing, Gone}

-- a place in a history: its epoch and its index
abbrev pub place : ℕ → ℕ → List ℕ
place epoch at = decimal epoch ++ codes ":" ++ decimal at

-- a word, a place and the newline
abbrev pub placed_line : List ℕ → ℕ → ℕ → List ℕ
placed_line word epoch at = word ++ codes " " ++ place epoch at ++ codes "\n"

-- the text of a line
abbrev pub text_of : ReportLine → List ℕ
text_of (Joined client user epoch at) =
    codes "joined " ++ decimal client ++ codes " user " ++ decimal user
    ++ placed_line (codes " at") epoch at
text_of Full = codes "full\n"
text_of NameRefused = codes "name refused\n"
text_of Ended = codes "ended\n"
text_of (Said count) = codes "said " ++ decimal count ++ codes "\n"
text_of (Sent count) = codes "sent " ++ decimal count ++ codes "\n"
text_of Empty = codes "empty\n"
text_of (Placed epoch at) = placed_line (codes "placed") epoch at
text_of (Filtered epoch at) = placed_line (codes "filtered") epoch at
text_of Ignored = codes "ignored\n"
text_of Noted = codes "noted\n"
text_of (Left epoch at) = placed_line (codes "left") epoch at
text_of Leaving = codes "leaving\n"
text_of (Cut epoch at) = placed_line (codes "cut") epoch at
text_of (Took epoch at) = placed_line (codes "took") epoch at
text_of Nothing = codes "nothing\n"
text_of Gone = codes "gone\n"
