use Rattle.std.proofs.Common.{◌≡◌, take}
use Rattle.std.specs.Io.KnownBytes.{Appends}
use Rattle.dp_lines.specs.Hexadecimal.{hex_text}
use Rattle.dp_endings.proofs.diagnostics.put_digits.Given as goal

-- the digits of the bytes before the place were put, and no fault was counted
abbrev pub invariant-loop-byte : goal.invariant-loop-byte
invariant-loop-byte g l = record {
  text : Appends (g.E.Sink.held l.initial.diag) (g.E.Sink.held l.diag)
      (hex_text (take l.byte-index l.bytes));
  kept : g.E.Sink.faults l.diag ≡ g.E.Sink.faults l.initial.diag;
}
