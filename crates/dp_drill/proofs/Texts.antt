-- What a drill prints, by what was drawn.
use Rattle.std.proofs.Common.{◌≡◌, ℕ, List, length, refl}
use Rattle.dp_messages.specs.declared.message.Entry.{Entry}
use Rattle.dp_plain.specs.Picture.{picture}
use Rattle.dp_replay.specs.Replay.{replay}
use Rattle.dp_drill.specs.Summary.{drill_history, drill_text, summary, sums_of}

-- the summary of a drill's history
pub text-is : (seed count : ℕ) (entries : List Entry) → entries ≡ drill_history seed count
    → summary seed count (length entries) (sums_of (picture (replay entries)))
    ≡ drill_text seed count
unfolding drill_text
text-is seed count entries is = rw is refl
