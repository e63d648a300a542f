use Rattle.std.proofs.Common.{◌≡◌, ◌≤◌, ℕ, List}
use Rattle.std.specs.Prelude.{Option}
use Rattle.dp_plain.specs.Board.{Board}
use Rattle.dp_recording.specs.Recordings.{GoesOn, measure_of}
use Rattle.dp_player.specs.Ahead.{ShowsFirstOn}
use Rattle.dp_player.proofs.ahead.read_batch.Given as goal

-- what the entries show was held, the reader has not ended, and no read failed
abbrev pub invariant-entries : goal.invariant-entries
invariant-entries g l = record {
  shown : (at : Option ℕ) (input : Option (List ℕ)) (on : Board)
      → ShowsFirstOn at input (g.I.Source.left l.fn.input) on l.fn.ahead
      → ShowsFirstOn at input (g.I.Source.left l.input) on l.ahead;
  going : GoesOn l.fn.ahead.reader → GoesOn l.ahead.reader;
  kept : g.I.Source.faults l.input ≡ g.I.Source.faults l.fn.input;
  within : measure_of l.ahead.reader ≤ measure_of l.fn.ahead.reader;
}

abbrev pub decreases-entries : goal.decreases-entries
decreases-entries g l = measure_of l.ahead.reader
