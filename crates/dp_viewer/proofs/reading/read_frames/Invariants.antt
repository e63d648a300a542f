use Rattle.std.proofs.Common.{◌≡◌, ◌-◌, ◌^◌}
use Rattle.dp_viewer.proofs.Inputs.{IsShown}
use Rattle.dp_viewer.proofs.reading.read_frames.Given as goal

-- the board trails what the entries show that were read of the input, and no read failed
abbrev pub invariant-entries : goal.invariant-entries
invariant-entries g l = record {
  told : IsShown (g.I.Source.left l.fn.input) (g.I.Source.left l.input) l.board l.reader;
  first : l.reader.first ≡ 0;
  limit : l.reader.limit ≡ 2 ^ 30;
  kept : g.I.Source.faults l.input ≡ g.I.Source.faults l.fn.input;
}

abbrev pub decreases-entries : goal.decreases-entries
decreases-entries g l = 2 ^ 30 - l.reader.stream.at
