-- The replays of lifted histories are those of the histories.
use Rattle.std.proofs.Common.{◌≡◌, ℕ, zero, suc, ◌∷◌, false, true, List, [], map, None}
use Rattle.std.proofs.Common.{refl, sym, ap, ap₂, ◌∙◌}
use Rattle.std.specs.Prelude.{slice_index_or}
use Rattle.std.proofs.lemmas.List.{map-append}
use Rattle.dp_msg_draw.specs.declared.draw.Draw.{Draw}
use Rattle.dp_msg_meta.specs.declared.message.Meta.TheVariants as meta
use Rattle.dp_messages.specs.declared.message.Msg.{Msg}
use Rattle.dp_messages.specs.declared.message.Msg.TheVariants as msg
use Rattle.dp_messages.specs.declared.message.Entry.{Entry}
use Rattle.dp_board.specs.declared.act.UserAct.{UserAct}
use Rattle.dp_board.specs.Laws.{depth_in, HasNoDepth}
use Rattle.dp_acl.specs.LookBack.{set_depth}
use Rattle.dp_replay.specs.Replay.{act_of_message, user_act_of}
use Rattle.dp_epochs.specs.State.{State, histories, history_of}
use Rattle.dp_lifting_laws.specs.Lifted.{lifted_message, lifted_state}
use Rattle.dp_lifting_laws.proofs.LiftedRights.{lifted_entries}
use Rattle.dp_lifting_laws.proofs.Depths.{SetsNone}

-- ---- acts

act-lifted : (user : ℕ) (m : Msg)
    → act_of_message user (lifted_message m) ≡ act_of_message user m
act-lifted user (msg.Opaque kind body) = refl
act-lifted user m = refl

acts-lifted : (history : List Entry)
    → map user_act_of (lifted_entries history) ≡ map user_act_of history
acts-lifted [] = refl
acts-lifted (e ∷ es) =
    ap₂ (λ (a : UserAct Draw) (more : List (UserAct Draw)). a ∷ more)
    (ap (λ a. record { user = e.user; act = a }) (act-lifted e.user e.msg)) (acts-lifted es)

history_at-lifted : (hs : List (List Entry)) (epoch : ℕ)
    → slice_index_or (map lifted_entries hs) epoch [] ≡ lifted_entries (slice_index_or hs epoch [])
history_at-lifted [] epoch = refl
history_at-lifted (history ∷ hs) zero = refl
history_at-lifted (history ∷ hs) (suc epoch) = history_at-lifted hs epoch

history-lifted : (s : State) (epoch : ℕ)
    → history_of (lifted_state s) epoch ≡ lifted_entries (history_of s epoch)
history-lifted s epoch =
    ap (λ hs. slice_index_or hs epoch []) (sym (map-append lifted_entries s.ended (s.live ∷ [])))
    ∙ history_at-lifted (histories s) epoch

-- a lifted state has, epoch by epoch, the acts of the state
pub acts_at-lifted : (s : State) (epoch : ℕ)
    → map user_act_of (history_of (lifted_state s) epoch) ≡ map user_act_of (history_of s epoch)
acts_at-lifted s epoch =
    ap (map user_act_of) (history-lifted s epoch) ∙ acts-lifted (history_of s epoch)

-- ---- depths

act-none : (user : ℕ) (m : Msg) → set_depth m ≡ None
    → depth_in (act_of_message user m) ≡ None
act-none user (msg.Meta (meta.UndoDepth depth)) none = none
act-none user (msg.Undo target false) none = refl
act-none user (msg.Undo target true) none = refl
act-none user m none = refl

-- entries that set no depth are acts that set none
pub acts-none : (history : List Entry) → SetsNone history → HasNoDepth (map user_act_of history)
acts-none [] h = tt
acts-none (e ∷ es) h = (act-none e.user e.msg h.0, acts-none es h.1)
