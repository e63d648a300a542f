-- A forbidden message changes nothing.
use Rattle.std.proofs.Common.{◌≡◌, ℕ, List, [], ◌∷◌, ◌++◌, map, fold, ap, sym, subst, ◌∙◌}
use Rattle.std.proofs.Common.{append_assoc}
use Rattle.std.proofs.lemmas.List.{map-append}
use Rattle.dp_messages.specs.declared.message.Entry.{Entry}
use Rattle.dp_messages.specs.Messages.{kind_of}
use Rattle.dp_msg_draw.specs.declared.draw.Draw.{Draw}
use Rattle.dp_board.specs.Commands.{drawn_commands}
use Rattle.dp_board.specs.Laws.{OthersDoNotCount}
use Rattle.dp_plain.specs.Board.{empty_board}
use Rattle.dp_plain.specs.Commands.{draw}
use Rattle.dp_replay.specs.Replay.{replay, user_act_of, undo_depth}
use Rattle.dp_acl.specs.Laws.{ForbiddenChangesNoRight}
use Rattle.dp_acl.specs.Laws as acl
use Rattle.dp_acl.specs.Permitted.{permitted}
use Rattle.dp_epochs.specs.declared.effect.Effect.{Effect}
use Rattle.dp_epochs.specs.declared.effect.Effect.TheVariants.{Nothing, Filtered, Dropped}
use Rattle.dp_epochs.specs.declared.event.Event.{Event}
use Rattle.dp_epochs.specs.declared.event.Event.TheVariants as event
use Rattle.dp_epochs.specs.declared.event.Reply.TheVariants as reply
use Rattle.dp_epochs.specs.State.{State}
use Rattle.dp_epochs.specs.Effects.{own_message, live_after, answer_of, IsStill, IsEffect}
use Rattle.dp_epochs.specs.Effects.{EventsHaveEffects}
use Rattle.dp_sim.specs.Headline.{ChangesNothing, ForbiddenChangesNothing}

-- the entry in place of a forbidden message changes no canvas
replay-filtered : OthersDoNotCount Draw → (before after : List Entry) (sender kind : ℕ)
    → replay (before ++ acl.filtered sender kind ∷ after) ≡ replay (before ++ after)
replay-filtered others before after sender kind =
    ap (λ acts. fold draw empty_board (drawn_commands undo_depth acts))
    (map-append user_act_of before (acl.filtered sender kind ∷ after))
    ∙ ap (fold draw empty_board) (others undo_depth sender (map user_act_of before)
    (map user_act_of after))
    ∙ ap (λ acts. fold draw empty_board (drawn_commands undo_depth acts))
    (sym (map-append user_act_of before after))

entry-nothing : OthersDoNotCount Draw → ForbiddenChangesNoRight → (live : List Entry)
    (sender kind : ℕ)
    → ChangesNothing live (live ++ acl.filtered sender kind ∷ [])
entry-nothing others rights live sender kind = record {
  canvas = λ more.
      ap replay (append_assoc live (acl.filtered sender kind ∷ []) more)
      ∙ replay-filtered others live more sender kind;
  rights = λ more user m.
      ap (λ history. permitted history user m) (append_assoc live (acl.filtered sender kind ∷ [])
      more)
      ∙ rights live more sender kind user m;
}

-- what is answered Filtered has changed nothing
effect-nothing : OthersDoNotCount Draw → ForbiddenChangesNoRight → (s : State) (e : Event)
    (effect : Effect) → IsEffect s e effect → (epoch at : ℕ)
    → answer_of s effect ≡ reply.Filtered epoch at
    → ChangesNothing s.live (live_after s e effect)
effect-nothing others rights s e (Nothing answer) cause epoch at is =
    absurd (subst (IsStill s e) is cause)
effect-nothing others rights s e (Filtered conn c) cause epoch at is =
    entry-nothing others rights s.live c.user (kind_of (own_message e))
effect-nothing others rights s e (Dropped conn c) cause epoch at is =
    entry-nothing others rights s.live c.user (kind_of (own_message e))
effect-nothing others rights s e effect cause epoch at is = cc

pub forbidden-nothing : OthersDoNotCount Draw → ForbiddenChangesNoRight → EventsHaveEffects
    → (s : State)
    → ForbiddenChangesNothing s
forbidden-nothing others rights effects s conn m epoch at is =
    let e = event.Say conn m in
    let h = effects s e in
    subst (λ a. ChangesNothing s.live a.state.live) (sym h.made)
    (effect-nothing others rights s e h.effect h.cause epoch at
    (ap (λ a. a.reply) (sym h.made) ∙ is))
