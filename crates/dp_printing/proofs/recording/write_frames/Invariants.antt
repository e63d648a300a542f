use Rattle.std.proofs.Common.{◌≡◌, take}
use Rattle.std.specs.List.{flat_map}
use Rattle.std.specs.Io.KnownBytes.{Appends}
use Rattle.dp_showing.specs.Showing.{hex_frame}
use Rattle.dp_printing.proofs.recording.write_frames.Given as goal

-- the texts of those before the place were written, and no fault was counted
abbrev pub invariant-loop-entry : goal.invariant-loop-entry
invariant-loop-entry g l = record {
  text : Appends (g.O.Sink.held l.initial.output) (g.O.Sink.held l.output)
      (flat_map hex_frame (take l.entry-index l.entries));
  kept : g.O.Sink.faults l.output ≡ g.O.Sink.faults l.initial.output;
}
