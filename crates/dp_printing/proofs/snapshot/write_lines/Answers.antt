use Rattle.std.proofs.Common.{◌∙◌, ap, arith, take}
use Rattle.std.specs.List.{flat_map}
use Rattle.std.proofs.lemmas.List.{take_all}
use Rattle.dp_io.proofs.Prefixes.{grows_whole}
use Rattle.dp_showing.specs.Showing.{snapshot_line}
use Rattle.dp_showing.proofs.Pieces.{appends_is, written_more, written_part}
use Rattle.dp_printing.proofs.snapshot.write_lines.Goals as goal

pub loop-command-preserved : goal.loop-command-preserved
loop-command-preserved g c = record {
  text =
      written_more snapshot_line (g.O.Sink.held c.args.output.now)
      (g.O.Sink.held c.loop-command.output)
      (g.O.Sink.held c.write_line.new.output) c.args.commands.now c.loop-command.command-index
      c.command-item.result
      (omega arith) c.command-item.is c.loop-command.invariant.text
      c.in_ok-write_line.ensures.written;
  kept = c.in_ok-write_line.ensures.cause.kept ∙ c.loop-command.invariant.kept;
}

pub returns-in_err-write_line-clause-prefix : goal.returns-in_err-write_line-clause-prefix
returns-in_err-write_line-clause-prefix g c =
    written_part snapshot_line (g.O.Sink.held c.args.output.now)
    (g.O.Sink.held c.loop-command.output)
    (g.O.Sink.held c.write_line.new.output) c.args.commands.now c.loop-command.command-index
    c.command-item.result
    (omega arith) c.command-item.is c.loop-command.invariant.text c.in_err-write_line.ensures.prefix

pub returns-clause-prefix : goal.returns-clause-prefix
returns-clause-prefix g c =
    grows_whole _ _ (flat_map snapshot_line c.args.commands.now)
    (appends_is _ _ (flat_map snapshot_line (take c.loop-command.command-index
    c.args.commands.now)) (flat_map snapshot_line c.args.commands.now)
    (ap (flat_map snapshot_line) (take_all c.loop-command.command-index c.args.commands.now
    (omega arith))) c.loop-command.invariant.text)
