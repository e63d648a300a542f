use Rattle.std.proofs.Common.{ℕ, ◌∙◌, arith, subst}
use Rattle.std.proofs.lemmas.Result.{err_from_is_err_and}
use Rattle.dp_msg_draw.specs.declared.draw.Draw.{Draw}
use Rattle.dp_messages.specs.declared.message.Msg.TheVariants as msg
use Rattle.dp_showing.proofs.Pieces.{written_more, written_part}
use Rattle.dp_join_link.specs.Sent.{sent_by, FaultMatchesWriting}
use Rattle.dp_joiner.proofs.reset.send_parts.Goals as goal

pub loop-command-preserved : goal.loop-command-preserved
loop-command-preserved g c = record {
  written =
      written_more (λ (command : Draw). sent_by c.args.user (msg.Part command))
      (g.S.Sink.held c.args.tx.now) (g.S.Sink.held c.loop-command.tx)
      (g.S.Sink.held c.send_part.new.tx) c.args.commands.now c.loop-command.command-index
      c.command-item.result (omega arith) c.command-item.is c.loop-command.invariant.written
      c.in_ok-send_part.ensures.written;
  kept = c.in_ok-send_part.ensures.kept ∙ c.loop-command.invariant.kept;
}

pub returns-in_err-send_part-clause-prefix : goal.returns-in_err-send_part-clause-prefix
returns-in_err-send_part-clause-prefix g c =
    written_part (λ (command : Draw). sent_by c.args.user (msg.Part command))
    (g.S.Sink.held c.args.tx.now) (g.S.Sink.held c.loop-command.tx)
    (g.S.Sink.held c.send_part.new.tx) c.args.commands.now c.loop-command.command-index
    c.command-item.result (omega arith) c.command-item.is c.loop-command.invariant.written
    c.in_err-send_part.ensures.prefix

pub returns-in_err-send_part-clause-fault : goal.returns-in_err-send_part-clause-fault
returns-in_err-send_part-clause-fault g c =
    let p = err_from_is_err_and c.from_residual.result c.from_residual.ensures.1 in
    rw (p.1, p.2) (subst (λ (n : ℕ). FaultMatchesWriting n (g.S.Sink.faults c.send_part.new.tx)
    c.in_err-send_part.field-0.0) c.loop-command.invariant.kept
    c.in_err-send_part.ensures.fault)
