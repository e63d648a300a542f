use Rattle.std.proofs.Common.{◌++◌, All, sym, subst}
use Rattle.std.proofs.lemmas.List.Elements.{All-drop}
use Rattle.dp_frame_log.specs.Frames.{AreFramesOf}
use Rattle.dp_history.specs.Items.{IsIn}
use Rattle.dp_history.proofs.KeptLemmas.{passed-first, passed-next, passed-err, passed-all}
use Rattle.dp_history.proofs.KeptLemmas.{next-of}
use Rattle.dp_history.proofs.frames.keep_sealed.Goals as goal

pub loop-segment-init : goal.loop-segment-init
loop-segment-init c = record {
  said = c.requires.said;
  passed = λ entries more of all.
      passed-first c.args.journal.now c.args.sealed.now c.args.items.now c.args.skip
      c.args.kept.now entries more c.requires.none of all;
}

pub keep_segment-requires-clause-made : goal.keep_segment-requires-clause-made
keep_segment-requires-clause-made c =
    let m = c.requires.made in
    let p = c.loop-segment.invariant.passed m.0 m.1 m.2 m.3 in
    let n =
    next-of c.args.journal.now c.args.sealed.now c.loop-segment.segment-index
    c.segment-item.result c.loop-segment.left.now p.todo m.1 c.loop-segment-test.true
    (sym c.segment-item.is) p.of p.items in (
      n.mine,
      n.rest ++ m.1,
      subst (λ f. AreFramesOf f n.mine) (sym c.frames.ensures) n.of,
      n.items,
    )

pub loop-segment-preserved : goal.loop-segment-preserved
loop-segment-preserved c = record {
  said = subst (All (IsIn c.args.journal.now)) (sym c.rest_of-left.ensures)
      (All-drop (IsIn c.args.journal.now) c.len-count.result c.loop-segment.left.now
      c.loop-segment.invariant.said);
  passed = λ entries more of all.
      passed-next c.args.journal.now c.args.sealed.now c.loop-segment.segment-index
      c.segment-item.result c.loop-segment.left.now c.rest_of-left.result.now c.args.skip
      c.loop-segment.from c.saturating_sub-from.result c.len-count.result
      c.loop-segment.kept c.keep_segment.new.kept entries more c.loop-segment-test.true
      (sym c.segment-item.is) (c.loop-segment.invariant.passed entries more of all)
      c.len-count.ensures
      c.rest_of-left.ensures c.saturating_sub-from.ensures
      (λ before mine rest kept frames items.
      c.in_ok-keep_segment.ensures before mine rest kept
      (subst (λ f. AreFramesOf f mine) (sym c.frames.ensures) frames)
      items);
}

pub returns-in_err-keep_segment : goal.returns-in_err-keep_segment
returns-in_err-keep_segment c = λ entries more of all.
    passed-err c.from_residual.result c.keep_segment.result c.args.journal.now c.args.sealed.now
    c.loop-segment.segment-index c.segment-item.result c.loop-segment.left.now c.args.skip
    c.loop-segment.from c.loop-segment.kept c.keep_segment.new.kept entries more
    c.from_residual.ensures.0 c.loop-segment-test.true (sym c.segment-item.is)
    (c.loop-segment.invariant.passed entries more of all)
    (λ before mine rest kept frames items.
    c.keep_segment.ensures before mine rest kept
    (subst (λ f. AreFramesOf f mine) (sym c.frames.ensures) frames)
    items)

pub returns : goal.returns
returns c = λ entries more of all.
    passed-all c.args.journal.now c.args.sealed.now c.loop-segment.segment-index
    c.loop-segment.left.now c.args.skip c.loop-segment.from c.loop-segment.kept entries more
    c.loop-segment-test.false (c.loop-segment.invariant.passed entries more of all)
