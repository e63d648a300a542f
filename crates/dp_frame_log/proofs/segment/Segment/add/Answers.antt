use Rattle.std.proofs.Common.{◌++◌, ◌∷◌, [], length, ap, sym, ◌∙◌}
use Rattle.dp_frame_log.proofs.FrameLemmas.{frames-appended}
use Rattle.dp_frame_log.proofs.segment.Segment.add.Goals as goal

pub returns-clause-ok : goal.returns-clause-ok
returns-clause-ok c = λ entries entry are frame.
    let kept = c.in_ok-end.ensures.ok in
    frames-appended c.args.self.now _ entries entry
    (kept ∙ c.in_ok-extend_from_slice.ensures.items
    ∙ ap (λ frames. frames.bytes ++ c.args.frame.now) c.self.view_is
    ∙ ap (λ xs. c.args.self.now.bytes ++ xs) frame)
    (c.push_reserved.ensures.items
    ∙ ap (λ n. c.reserve.new.self.items ++ n ∷ [])
    (c.in_ok-end.ensures.end ∙ sym (ap length kept))
    ∙ ap (λ xs. xs ++ length c.end_after.new.bytes.items ∷ [])
    (c.in_ok-reserve.ensures.items ∙ ap (λ frames. frames.ends) c.self.view_is))
    are
