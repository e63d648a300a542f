use Rattle.std.proofs.Common.{◌++◌, ◌∷◌, [], length, ap, sym, ◌∙◌}
use Rattle.dp_messages.specs.declared.message.Entry.{Entry}
use Rattle.dp_messages.specs.Messages.{entry_bytes}
use Rattle.dp_frame_log.proofs.FrameLemmas.{frames-appended}
use Rattle.dp_frame_log.proofs.segment.Segment.append.Goals as goal

pub returns-clause-ok : goal.returns-clause-ok
returns-clause-ok c = λ entries are.
    let entry : Entry = record { user = c.args.user; msg = c.args.msg.now } in
    let kept = c.in_ok-end.ensures.ok in
    frames-appended c.args.self.now _ entries entry
    (kept ∙ c.in_ok-put_message.ensures.ok
    ∙ ap (λ frames. frames.bytes ++ entry_bytes entry) c.self.view_is)
    (c.push_reserved.ensures.items
    ∙ ap (λ n. c.reserve.new.self.items ++ n ∷ [])
    (c.in_ok-end.ensures.end ∙ sym (ap length kept))
    ∙ ap (λ xs. xs ++ length c.end_after.new.bytes.items ∷ [])
    (c.in_ok-reserve.ensures.items ∙ ap (λ frames. frames.ends) c.self.view_is))
    are
