use Rattle.std.proofs.Common.{◌≡◌, List, ℕ, Option}
use Rattle.dp_frame.specs.Frames.{HoldsNoFrame}
use Rattle.dp_split.specs.Stream.{Stream}
use Rattle.dp_messages.specs.declared.message.Entry.{Entry}
use Rattle.dp_entries.specs.Reader.{HasRead, SamePlace, measure_of}
use Rattle.dp_entries.specs.Onward.{AreBytes, ReachesFew, ReadOn}
use Rattle.dp_entries.proofs.reader.EntryReader.fill.Given as goal

-- what was read goes on by the pieces
abbrev pub invariant-pieces : goal.invariant-pieces
invariant-pieces g l = record {
  read : (bytes : List ℕ) (entries : List Entry)
      → HasRead g.S.Standing.may_stand bytes (g.I.Source.left l.fn.input) entries l.fn.self
      → HasRead g.S.Standing.may_stand bytes (g.I.Source.left l.input) entries l.self;
  goes_on : (source : Option (List ℕ)) (start : Stream) (entries : List Entry)
      → ReadOn g.S.Standing.may_stand source (g.I.Source.left l.fn.input) start entries l.fn.self
      → ReadOn g.S.Standing.may_stand source (g.I.Source.left l.input) start entries l.self;
  bytes : AreBytes l.fn.self.stream.held → AreBytes l.self.stream.held;
  few : ReachesFew l.fn.self.stream l.self.stream;
  place : SamePlace l.fn.self l.self;
  kept : g.I.Source.faults l.input ≡ g.I.Source.faults l.fn.input;
  idle : ¬ HoldsNoFrame l.fn.self.stream.held
      → (l.self ≡ l.fn.self) × (g.I.Source.left l.input ≡ g.I.Source.left l.fn.input);
}

abbrev pub decreases-pieces : goal.decreases-pieces
decreases-pieces g l = measure_of l.self
