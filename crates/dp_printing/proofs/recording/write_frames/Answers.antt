use Rattle.std.proofs.Common.{◌∙◌, arith}
use Rattle.dp_showing.specs.Showing.{hex_frame}
use Rattle.dp_showing.proofs.Pieces.{written_more, written_part}
use Rattle.dp_printing.proofs.recording.write_frames.Goals as goal

pub loop-entry-preserved : goal.loop-entry-preserved
loop-entry-preserved g c = record {
  text =
      written_more hex_frame (g.O.Sink.held c.args.output.now) (g.O.Sink.held c.loop-entry.output)
      (g.O.Sink.held c.write_frame.new.output) c.args.entries.now c.loop-entry.entry-index
      c.entry-item.result
      (omega arith) c.entry-item.is c.loop-entry.invariant.text c.in_ok-write_frame.ensures.written;
  kept = c.in_ok-write_frame.ensures.cause.kept ∙ c.loop-entry.invariant.kept;
}

pub returns-in_err-write_frame-clause-prefix : goal.returns-in_err-write_frame-clause-prefix
returns-in_err-write_frame-clause-prefix g c =
    written_part hex_frame (g.O.Sink.held c.args.output.now) (g.O.Sink.held c.loop-entry.output)
    (g.O.Sink.held c.write_frame.new.output) c.args.entries.now c.loop-entry.entry-index
    c.entry-item.result
    (omega arith) c.entry-item.is c.loop-entry.invariant.text c.in_err-write_frame.ensures.prefix
