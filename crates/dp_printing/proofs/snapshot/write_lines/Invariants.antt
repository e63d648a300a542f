use Rattle.std.proofs.Common.{◌≡◌, take}
use Rattle.std.specs.List.{flat_map}
use Rattle.std.specs.Io.KnownBytes.{Appends}
use Rattle.dp_showing.specs.Showing.{snapshot_line}
use Rattle.dp_printing.proofs.snapshot.write_lines.Given as goal

-- the texts of those before the place were written, and no fault was counted
abbrev pub invariant-loop-command : goal.invariant-loop-command
invariant-loop-command g l = record {
  text : Appends (g.O.Sink.held l.initial.output) (g.O.Sink.held l.output)
      (flat_map snapshot_line (take l.command-index l.commands));
  kept : g.O.Sink.faults l.output ≡ g.O.Sink.faults l.initial.output;
}
