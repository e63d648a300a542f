-- What a run of a drill leaves.
use Rattle.std.specs.Prelude.{ℕ, List, Option}
use Rattle.std.specs.Io.KnownBytes.{Appends, Keeps}
use Rattle.dp_board.specs.Counts.{CountsFew}
use Rattle.dp_io.specs.Streams.{GrowsByPrefix}
use Rattle.dp_lines.specs.declared.run_end.RunEnd.{RunEnd}
use Rattle.dp_lines.specs.declared.run_end.RunEnd.TheVariants.{Done, BadLine, ReadFault, WriteFault}
use Rattle.dp_lines.specs.declared.run_end.RunEnd.TheVariants.{LinkFault, Memory, Long, Truncated}
use Rattle.dp_lines.specs.declared.run_end.RunEnd.TheVariants.{BadMessage, Closed, BadHeader}
use Rattle.dp_pixels.specs.Feet.{reach}
use Rattle.dp_drill.specs.Summary.{drill_due, drill_text}

-- the output by how a run ends: it has the text, or after a fault a prefix of it, or nothing
abbrev pub WritesText : List ℕ → Option (List ℕ) → Option (List ℕ) → RunEnd → Type 0
WritesText text old new Done = Appends old new text
WritesText text old new WriteFault = GrowsByPrefix old new text
WritesText text old new Memory = Keeps old new
WritesText text old new (BadLine n) = ⊥
WritesText text old new ReadFault = ⊥
WritesText text old new LinkFault = ⊥
WritesText text old new Long = ⊥
WritesText text old new (Truncated n) = ⊥
WritesText text old new (BadMessage n) = ⊥
WritesText text old new Closed = ⊥
WritesText text old new BadHeader = ⊥

-- What a drill with this end leaves on the output. It drew each command that is due at most once,
-- and made no more tiles than these reach. The counters are those of draws and of tiles, before and
-- now.
pub record DrillLeaves (seed count : ℕ) (old new : Option (List ℕ))
    (draws draws_now tiles tiles_now : ℕ) (end : RunEnd) : Type 0 where
  pub text : WritesText (drill_text seed count) old new end
  pub few : CountsFew reach (drill_due seed count) draws draws_now tiles tiles_now
