use Rattle.std.proofs.Common.{◌≡◌}
use Rattle.dp_recording.specs.Recordings.{GoesOn, measure_of}
use Rattle.dp_viewer.specs.Reading.{ShowsFirst}
use Rattle.dp_viewer.proofs.reading.read_recording.Given as goal

-- the board trails what the first entries show that the reader gave, it has not ended, and no read
-- failed
abbrev pub invariant-entries : goal.invariant-entries
invariant-entries g l = record {
  told : ShowsFirst l.fn.due (g.I.Source.left l.fn.input) (g.I.Source.left l.input)
      l.board l.due l.reader;
  going : GoesOn l.reader;
  kept : g.I.Source.faults l.input ≡ g.I.Source.faults l.fn.input;
}

abbrev pub decreases-entries : goal.decreases-entries
decreases-entries g l = measure_of l.reader
