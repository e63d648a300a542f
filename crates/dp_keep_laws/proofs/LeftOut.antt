-- Entries that have no effect on strokes may be left out of a history.
use Rattle.std.proofs.Common.{◌≡◌, ℕ, Bool, true, false, cond, List, [], ◌∷◌, ◌++◌, map, Some, None}
use Rattle.std.proofs.Common.{unwrap_or, refl, ap, sym, subst, ◌∙◌, append_assoc, inl, inr}
use Rattle.std.specs.List.{AllByRecursion, filter}
use Rattle.std.proofs.lemmas.Bool.{cases_Bool}
use Rattle.dp_msg_draw.specs.declared.draw.Draw.{Draw}
use Rattle.dp_msg_meta.specs.declared.message.Meta.{Meta}
use Rattle.dp_msg_meta.specs.declared.message.Meta.TheVariants.{UndoDepth}
use Rattle.dp_messages.specs.declared.message.Msg.{Msg}
use Rattle.dp_messages.specs.declared.message.Msg.TheVariants as msg
use Rattle.dp_messages.specs.declared.message.Entry.{Entry}
use Rattle.dp_board.specs.declared.act.Act.TheVariants.{Other}
use Rattle.dp_board.specs.declared.act.UserAct.{UserAct}
use Rattle.dp_board.specs.Commands.{drawn_commands}
use Rattle.dp_board.specs.Laws.{depth_in, HasNoDepth, depth_after, OthersDoNotCount}
use Rattle.dp_replay.specs.Replay.{act_of_meta, act_of_message, act_of, user_act_of}
use Rattle.dp_acl.specs.Opening.{goes_over}

-- the entry has no effect on strokes, if it fails the test
abbrev IsLeftOut : (Entry → Bool) → Entry → Type 0
IsLeftOut p e = p e ≡ false → act_of e ≡ Other

-- the same commands are drawn without those that fail
pub drawn-left_out : OthersDoNotCount Draw → (p : Entry → Bool) (depth : ℕ)
    (before : List (UserAct Draw)) (entries : List Entry) (after : List (UserAct Draw))
    → AllByRecursion (IsLeftOut p) entries
    → drawn_commands depth (before ++ (map user_act_of (filter p entries) ++ after))
    ≡ drawn_commands depth (before ++ (map user_act_of entries ++ after))
drawn-left_out law p depth before [] after all = refl
drawn-left_out law p depth before (e ∷ entries) after all =
    let next = user_act_of e in
    let kept = map user_act_of (filter p entries) ++ after in
    let whole = map user_act_of entries ++ after in
    let goal : Bool → Type 0 = λ b. drawn_commands depth
    (before ++ (map user_act_of (cond b (e ∷ filter p entries) (filter p entries)) ++ after))
    ≡ drawn_commands depth (before ++ (next ∷ whole)) in
    elim (cases_Bool (p e)) [
      | inl passes ↦ subst goal (sym passes)
          (ap (drawn_commands depth) (sym (append_assoc before (next ∷ []) kept))
          ∙ drawn-left_out law p depth (before ++ next ∷ []) entries after all.1
          ∙ ap (drawn_commands depth) (append_assoc before (next ∷ []) whole))
      | inr fails ↦ subst goal (sym fails)
          (drawn-left_out law p depth before entries after all.1
          ∙ sym (law depth e.user before whole)
          ∙ ap (λ act. drawn_commands depth
          (before ++ (record { user = e.user; act = act } ∷ whole))) (sym (all.0 fails)))
    ]

-- what doesn't go on, and sets no depth, has no effect on strokes
other-meta : (m : Meta) → depth_in (act_of_meta {Op = Draw} m) ≡ None
    → act_of_meta {Op = Draw} m ≡ Other
other-meta (UndoDepth depth) free = let wrong : Some depth ≡ None = free in cc
other-meta m free = refl

other-message : (sender : ℕ) (m : Msg) → goes_over m ≡ false
    → depth_in (act_of_message sender m) ≡ None → act_of_message sender m ≡ Other
other-message sender (msg.Meta m) stays free = other-meta m free
other-message sender (msg.Control m) stays free = refl
other-message sender (msg.Part command) stays free = refl
other-message sender (msg.Opaque kind body) stays free = refl
other-message sender _ stays free = let wrong : true ≡ false = stays in cc

pub left_out : (entries : List Entry) → HasNoDepth (map user_act_of entries)
    → AllByRecursion (IsLeftOut (λ e. goes_over e.msg)) entries
left_out [] free = tt
left_out (e ∷ entries) free =
    (λ stays. other-message e.user e.msg stays free.0, left_out entries free.1)

-- if no depth is set, it stays
pub depth-stays : {Op : Type 0} → (depth : ℕ) (acts : List (UserAct Op)) → HasNoDepth acts
    → depth_after depth acts ≡ depth
depth-stays depth [] free = refl
depth-stays depth (a ∷ acts) free =
    ap (λ o. depth_after (unwrap_or o depth) acts) free.0 ∙ depth-stays depth acts free.1
