-- Which messages greet a client.
use Rattle.std.proofs.Common.{◌≡◌, ◌⊎◌, inl, inr, ⊎_elim, ℕ, true, false, List, refl, sym, ◌∙◌}
use Rattle.std.specs.Prelude.{Some, None}
use Rattle.dp_client.specs.Client.{State, welcomed}
use Rattle.dp_msg_meta.specs.declared.message.Control.TheVariants as control
use Rattle.dp_messages.specs.declared.message.Msg.{Msg}
use Rattle.dp_messages.specs.declared.message.Msg.TheVariants as msg
use Rattle.dp_messages.specs.Properties.{is_disconnect}
use Rattle.dp_joiner.specs.Joining.{greeted, newcomer}
use Rattle.dp_join_link.specs.JoinStanding.{is_ping}

-- it makes a newcomer, and is no Disconnect and no Ping
pub record Greets (m : Msg) : Type 0 where
  pub client : State
  pub makes : (name : List ℕ) → greeted name m ≡ Some (newcomer client name)
  pub stays : is_disconnect m ≡ false
  pub counts : is_ping m ≡ false

-- a Welcome does, and no other message greets
pub greets : (m : Msg) → Greets m ⊎ ((name : List ℕ) → greeted name m ≡ None)
greets (msg.Control (control.Welcome version user epoch at)) = inl (record {
  client = welcomed user epoch at;
  makes = λ name. refl;
  stays = refl;
  counts = refl;
})
greets (msg.Control (control.Hello title)) = inr (λ name. refl)
greets (msg.Control (control.Disconnect reason)) = inr (λ name. refl)
greets (msg.Control (control.Ping pong)) = inr (λ name. refl)
greets (msg.Control (control.Ack epoch)) = inr (λ name. refl)
greets (msg.Control control.ResetBegin) = inr (λ name. refl)
greets (msg.Control control.ResetEnd) = inr (λ name. refl)
greets (msg.Control (control.ResetFrom at)) = inr (λ name. refl)
greets (msg.Meta m) = inr (λ name. refl)
greets (msg.Part op) = inr (λ name. refl)
greets msg.Point = inr (λ name. refl)
greets (msg.Undo target redo) = inr (λ name. refl)
greets (msg.Draw op) = inr (λ name. refl)
greets (msg.Opaque kind body) = inr (λ name. refl)

-- a message that closes the link, or is passed over, greets nobody
pub none_greeted : (name : List ℕ) (m : Msg) → (is_disconnect m ≡ true) ⊎ (is_ping m ≡ true)
    → greeted name m ≡ None
none_greeted name m is = ⊎_elim
    (λ greet. absurd (⊎_elim (λ closes. cc (sym greet.stays ∙ closes))
    (λ pings. cc (sym greet.counts ∙ pings)) is))
    (λ none. none name) (greets m)
