use Rattle.std.proofs.Common.{◌≡◌, ◌<◌, ◌+◌, ◌-◌, ◌++◌, ◌∷◌, [], length, take, drop, refl, sym}
use Rattle.std.proofs.Common.{subst, ◌∙◌, arith, append_assoc}
use Rattle.dp_frame_log.specs.Frames.{AreLogOf}
use Rattle.dp_history.specs.Items.{entry_in, IsIn}
use Rattle.dp_history.specs.Made.{going_over}
use Rattle.dp_history.proofs.MadeLemmas.{entry-of-frame}
use Rattle.dp_history.proofs.KeptLemmas.{segment-count, frame-of, going-next, segment-kept}
use Rattle.dp_history.proofs.KeptLemmas.{segment-begun, kept-first}
use Rattle.dp_history.proofs.frames.keep_segment.Goals as goal

pub frame-requires : goal.frame-requires
frame-requires c =
    let m = c.requires.made in (
      m.0,
      m.2,
      omega (
        arith,
        c.loop-at-test.true,
        segment-count c.args.segment.now c.args.journal.now c.args.items.now m.0 m.1
            c.len.result (length c.args.items.now) c.min-count.result c.len.ensures refl
            c.min-count.ensures m.2 m.3,
      ),
    )

pub keep_frame-requires : goal.keep_frame-requires
keep_frame-requires c =
    subst (IsIn c.args.journal.now) (sym c.index-items-at.is)
    (c.requires.said c.loop-at.at c.index-items-at.result
    (omega (arith, c.loop-at-test.true, c.min-count.ensures)))

pub loop-at-preserved : goal.loop-at-preserved
loop-at-preserved c = λ before mine more log of all.
    let at = c.loop-at.at in
    let first = c.min-first.result in
    let item = c.index-items-at.result in
    let entry = entry_in c.args.journal.now item in
    let long : c.min-count.result ≡ length mine =
    segment-count c.args.segment.now c.args.journal.now c.args.items.now mine more c.len.result
    (length c.args.items.now) c.min-count.result c.len.ensures refl c.min-count.ensures of all in
    let within : at < length mine = omega (arith, c.loop-at-test.true, long) in
    let is = entry-of-frame c.args.journal.now c.args.items.now mine more at item all within
    (sym c.index-items-at.is) in
    subst (λ xs. AreLogOf c.keep_frame.new.kept (before ++ xs))
    (sym (going-next mine first at entry c.loop-at.auto.at within is))
    (subst (AreLogOf c.keep_frame.new.kept)
    (append_assoc before (going_over (take (at - first) (drop first mine)))
    (going_over (entry ∷ [])))
    (c.in_ok-keep_frame.ensures.ok (before ++ going_over (take (at - first) (drop first mine)))
    (c.loop-at.invariant before mine more log of all)
    (c.frame.ensures mine of ∙ frame-of mine at entry within is)))

pub returns-in_err-keep_frame : goal.returns-in_err-keep_frame
returns-in_err-keep_frame c = λ before mine more log of all.
    let at = c.loop-at.at in
    let first = c.min-first.result in
    kept-first c.from_residual.result c.keep_frame.new.kept
    (before ++ going_over (drop c.args.skip mine)) c.from_residual.ensures.0
    (segment-begun c.keep_frame.new.kept before mine c.args.skip first c.min-count.result
    (at - first)
    (segment-count c.args.segment.now c.args.journal.now c.args.items.now mine more c.len.result
    (length c.args.items.now) c.min-count.result c.len.ensures refl c.min-count.ensures of all)
    c.min-first.ensures
    (subst (λ l. AreLogOf l (before ++ going_over (take (at - first) (drop first mine))))
    (sym c.in_err-keep_frame.ensures.err) (c.loop-at.invariant before mine more log of all)))

pub returns : goal.returns
returns c = λ before mine more log of all.
    let long : c.min-count.result ≡ length mine =
    segment-count c.args.segment.now c.args.journal.now c.args.items.now mine more c.len.result
    (length c.args.items.now) c.min-count.result c.len.ensures refl c.min-count.ensures of all in
    let end : c.loop-at.at ≡ c.min-count.result = omega (
      arith,
      c.loop-at-test.false,
      c.loop-at.auto.at-end (omega (arith, c.min-first.ensures)),
    )
    in
    segment-kept c.loop-at.kept before mine c.args.skip c.min-first.result c.loop-at.at
    (end ∙ long) (omega (arith, c.min-first.ensures, end))
    (c.loop-at.invariant before mine more log of all)
