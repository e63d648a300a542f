use Rattle.std.proofs.Common.{◌≡◌, ◌++◌, length, map, sym, ap, subst, ◌∙◌, All, arith}
use Rattle.std.specs.Prelude.{option_to_list}
use Rattle.dp_history.specs.Items.{entry_in, IsIn}
use Rattle.dp_history.specs.Made.{AreMadeOf}
use Rattle.dp_commit.specs.Placed.{AreFramesWith, own_entries, items_after}
use Rattle.dp_commit.proofs.PlacedLemmas.{own-alike}
use Rattle.dp_commit.proofs.live.LiveEpoch.keep.Goals as goal

pub keep_frames-requires-clause-said : goal.keep_frames-requires-clause-said
keep_frames-requires-clause-said c =
    subst (All (IsIn c.args.journal.now)) (sym c.deref.ensures.value) c.requires.said

pub keep_frames-requires-clause-made : goal.keep_frames-requires-clause-made
keep_frames-requires-clause-made c =
    subst (λ xs. AreMadeOf c.args.self.now.frames (map (entry_in c.args.journal.now) xs))
    (sym c.deref.ensures.value) c.requires.made

pub place-requires-clause-live : goal.place-requires-clause-live
place-requires-clause-live c =
    let own : length (option_to_list c.own_item.result)
    ≡ length (own_entries c.args.event c.args.effect) =
    ap length c.own_item.ensures ∙ own-alike _ c.args.event c.args.effect in
    omega (arith, c.requires.history)

pub place-requires-clause-rights : goal.place-requires-clause-rights
place-requires-clause-rights c = omega (arith, c.requires.rights, c.note_own-event.ensures.room)

pub returns-clause-history : goal.returns-clause-history
returns-clause-history c =
    c.place.ensures.live
    ∙ ap (λ own. items_after own c.args.supply c.args.self.now.history.items) c.own_item.ensures

pub returns-clause-frames : goal.returns-clause-frames
returns-clause-frames c =
    subst (λ xs. AreFramesWith (map (entry_in c.args.journal.now) xs) c.args.from c.args.supply
    c.args.self.now.frames c.keep_frames.new.frames) c.deref.ensures.value c.keep_frames.ensures

pub returns-clause-stands : goal.returns-clause-stands
returns-clause-stands c = λ history next stands given.
    c.place.ensures.stands c.args.journal.now
    (history ++ own_entries c.args.event c.args.effect) next
    (c.note_own-event.ensures.stands history stands) given
