use Rattle.std.proofs.Common.{◌≡◌, ◌++◌, length, map, drop, sym, ap, subst, ◌∙◌}
use Rattle.std.proofs.Common.{append_assoc}
use Rattle.std.proofs.lemmas.List.{drop-map}
use Rattle.std.proofs.Math.Seq.{drop-append_seam}
use Rattle.dp_frame_log.specs.Frames.{AreFramesOf, AreSealedOf}
use Rattle.dp_history.specs.Items.{entry_in}
use Rattle.dp_history.specs.Made.{WereKept, going_over}
use Rattle.dp_frame_log.proofs.LogLemmas.{sealed-count}
use Rattle.dp_history.proofs.KeptLemmas.{log-kept, log-begun}
use Rattle.dp_history.proofs.frames.keep_frames.Goals as goal

pub keep_sealed-requires-clause-made : goal.keep_sealed-requires-clause-made
keep_sealed-requires-clause-made c =
    let are = c.requires.made in (
      are.of.before,
      are.of.rest ++ are.rest,
      subst (λ s. AreSealedOf s are.of.before) (sym c.sealed.ensures) are.of.sealed,
      are.all ∙ ap (λ xs. xs ++ are.rest) are.of.all
          ∙ append_assoc are.of.before are.of.rest are.rest,
    )

pub returns-in_err-keep_sealed : goal.returns-in_err-keep_sealed
returns-in_err-keep_sealed c = λ are.
    log-begun c.from_residual.result c.keep_sealed.result c.keep_sealed.new.kept c.args.skip
    are.written are.of.before are.of.rest are.of.all c.from_residual.ensures.0
    (c.keep_sealed.ensures are.of.before (are.of.rest ++ are.rest)
    (subst (λ s. AreSealedOf s are.of.before) (sym c.sealed.ensures) are.of.sealed)
    (are.all ∙ ap (λ xs. xs ++ are.rest) are.of.all
    ∙ append_assoc are.of.before are.of.rest are.rest))

pub keep_segment-requires-clause-made : goal.keep_segment-requires-clause-made
keep_segment-requires-clause-made c =
    let are = c.requires.made in
    let f = entry_in c.args.journal.now in
    let long : c.before-before.result ≡ length are.of.before =
    c.before-before.ensures ∙ sealed-count c.args.frames.now.sealed are.of.before are.of.sealed in
    let first : map f c.args.items.now ≡ are.of.before ++ (are.of.rest ++ are.rest) =
    are.all ∙ ap (λ xs. xs ++ are.rest) are.of.all
    ∙ append_assoc are.of.before are.of.rest are.rest in (
      are.of.rest,
      are.rest,
      subst (λ s. AreFramesOf s are.of.rest) (sym c.last.ensures) are.of.last,
      ap (map f) c.rest_of-left.ensures ∙ sym (drop-map f c.before-before.result c.args.items.now)
          ∙ ap (drop c.before-before.result) first
          ∙ ap (λ n. drop n (are.of.before ++ (are.of.rest ++ are.rest))) long
          ∙ drop-append_seam are.of.before (are.of.rest ++ are.rest),
    )

pub returns : goal.returns
returns c = λ are.
    let f = entry_in c.args.journal.now in
    let before = c.before-before.result in
    let long : before ≡ length are.of.before =
    c.before-before.ensures ∙ sealed-count c.args.frames.now.sealed are.of.before are.of.sealed in
    let first : map f c.args.items.now ≡ are.of.before ++ (are.of.rest ++ are.rest) =
    are.all ∙ ap (λ xs. xs ++ are.rest) are.of.all
    ∙ append_assoc are.of.before are.of.rest are.rest in
    log-kept c.keep_segment.result c.keep_segment.new.kept c.args.skip before are.written
    are.of.before are.of.rest are.of.all long
    (subst (λ n. WereKept c.keep_segment.result c.keep_segment.new.kept
    (going_over (drop c.args.skip are.of.before) ++ going_over (drop n are.of.rest)))
    c.saturating_sub.ensures
    (c.keep_segment.ensures (going_over (drop c.args.skip are.of.before)) are.of.rest are.rest
    (c.in_ok-keep_sealed.ensures are.of.before (are.of.rest ++ are.rest)
    (subst (λ s. AreSealedOf s are.of.before) (sym c.sealed.ensures) are.of.sealed) first)
    (subst (λ s. AreFramesOf s are.of.rest) (sym c.last.ensures) are.of.last)
    (ap (map f) c.rest_of-left.ensures ∙ sym (drop-map f before c.args.items.now)
    ∙ ap (drop before) first
    ∙ ap (λ n. drop n (are.of.before ++ (are.of.rest ++ are.rest))) long
    ∙ drop-append_seam are.of.before (are.of.rest ++ are.rest))))
