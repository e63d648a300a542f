use Rattle.std.proofs.Common.{◌∙◌, refl}
use Rattle.dp_endings.proofs.Digits.{digits-more, digits-none, digits-part}
use Rattle.dp_endings.proofs.diagnostics.put_digits.Goals as goal

pub loop-byte-init : goal.loop-byte-init
loop-byte-init g c =
    record { text = digits-none (g.E.Sink.held c.args.diag.now); kept = refl }

pub loop-byte-preserved : goal.loop-byte-preserved
loop-byte-preserved g c = record {
  text =
      digits-more (g.E.Sink.held c.args.diag.now) (g.E.Sink.held c.loop-byte.diag)
      (g.E.Sink.held c.put_all.new.sink) c.args.bytes.now c.digits_of.result
      c.loop-byte.byte-index c.loop-byte-test.true c.digits_of.ensures
      c.loop-byte.invariant.text c.in_ok-put_all.ensures.written;
  kept = c.in_ok-put_all.ensures.cause.kept ∙ c.loop-byte.invariant.kept;
}

pub returns-in_err-put_all-clause-prefix : goal.returns-in_err-put_all-clause-prefix
returns-in_err-put_all-clause-prefix g c =
    digits-part (g.E.Sink.held c.args.diag.now) (g.E.Sink.held c.loop-byte.diag)
    (g.E.Sink.held c.put_all.new.sink) c.args.bytes.now c.digits_of.result
    c.loop-byte.byte-index c.loop-byte-test.true c.digits_of.ensures
    c.loop-byte.invariant.text c.in_err-put_all.ensures.prefix
