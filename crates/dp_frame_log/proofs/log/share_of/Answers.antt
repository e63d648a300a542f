use Rattle.std.proofs.Common.{length, sym, ap, ◌∙◌, arith}
use Rattle.dp_frame_log.proofs.LogLemmas.{shared-put, shared-within, passed-left, passed-none}
use Rattle.dp_frame_log.proofs.log.share_of.Goals as goal

pub returns-then-place-segment-clause-put : goal.returns-then-place-segment-clause-put
returns-then-place-segment-clause-put c =
    shared-put c.args.sealed.now c.loop-segment.segment-index c.args.at c.loop-segment.place
    c.segment-item.result c.loop-segment-test.true (sym c.segment-item.is)
    c.loop-segment.invariant.place c.loop-segment.invariant.left c.share.result c.args.most
    c.share.new.page c.share.ensures.most c.share.ensures.put

pub returns-then-place-segment-clause-within : goal.returns-then-place-segment-clause-within
returns-then-place-segment-clause-within c =
    shared-within c.args.sealed.now c.loop-segment.segment-index c.args.at c.loop-segment.place
    c.segment-item.result c.loop-segment-test.true (sym c.segment-item.is)
    c.loop-segment.invariant.place c.loop-segment.invariant.left c.share.result c.args.most
    c.share.ensures.some c.share.ensures.most

pub loop-segment-preserved : goal.loop-segment-preserved
loop-segment-preserved c = record {
  place = omega (arith, c.loop-segment.invariant.place);
  left = passed-left c.args.sealed.now c.loop-segment.segment-index c.args.at
      c.loop-segment.place c.segment-item.result c.loop-segment-test.true
      (sym c.segment-item.is) c.loop-segment.invariant.place c.loop-segment.invariant.left
      c.segment.inside.count c.if-place-segment.false
      (c.segment.invariant ∙ ap (λ f. length f.ends) c.segment.view_is);
}

pub unreachable-requires : goal.unreachable-requires
unreachable-requires c =
    passed-none c.args.sealed.now c.loop-segment.segment-index c.args.at c.loop-segment.place
    c.requires.are.0 (omega (arith, c.loop-segment-test.false)) c.loop-segment.invariant.place
    c.requires.are.2 (c.loop-segment.invariant.left c.requires.are.0 c.requires.are.1)
