use Rattle.std.proofs.Common.{◌≡◌}
use Rattle.std.specs.List.{fold}
use Rattle.dp_plain.specs.Commands.{draw}
use Rattle.dp_recording.specs.Recordings.{GoesOn, measure_of}
use Rattle.dp_savepoints.specs.Kept.{drawn_among}
use Rattle.dp_player.specs.Ahead.{ShowsFirstOn}
use Rattle.dp_player.proofs.ahead.read_ahead.Given as goal

-- the board trails what the first entries show once the acts that are ready are drawn, the reader
-- has not ended, and no read failed
abbrev pub invariant-batches : goal.invariant-batches
invariant-batches g l = record {
  told : ShowsFirstOn l.fn.shown.due (g.I.Source.left l.fn.input) (g.I.Source.left l.input)
      (fold draw l.behind.board (drawn_among l.behind.ready.items)) l.ahead;
  going : GoesOn l.ahead.reader;
  kept : g.I.Source.faults l.input ≡ g.I.Source.faults l.fn.input;
}

abbrev pub decreases-batches : goal.decreases-batches
decreases-batches g l = measure_of l.ahead.reader
