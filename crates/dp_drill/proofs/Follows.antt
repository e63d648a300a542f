-- The session of a world is that of its flow: what clients take changes nothing of it.
use Rattle.std.proofs.Common.{◌≡◌, ℕ, zero, suc, ◌-◌, ◌<◌, ◌≤◌, ◌==◌, Bool, true, false}
use Rattle.std.proofs.Common.{if◌then◌else◌, List, [], ◌∷◌, ◌++◌, length, map, Option, None, Some}
use Rattle.std.proofs.Common.{refl, sym, ap, subst, ◌∙◌, ⊎_elim, arith, append-nil}
use Rattle.std.specs.Prelude.{slice_set, ⊤}
use Rattle.std.specs.List.{AllByRecursion, fold, slice_get}
use Rattle.std.specs.Option.{option_map, option_map_or}
use Rattle.std.proofs.Math.ListN.{length-set}
use Rattle.std.proofs.lemmas.Bool.{cond_both}
use Rattle.dp_lists.specs.Numbered.{numbered}
use Rattle.dp_lists.proofs.Numbered.{number-found}
use Rattle.dp_lists.proofs.Options.{at_some}
use Rattle.dp_messages.specs.declared.message.Entry.{Entry}
use Rattle.dp_messages.specs.declared.message.Msg.{Msg}
use Rattle.dp_messages.specs.declared.message.Msg.TheVariants as msg
use Rattle.dp_messages.specs.Messages.{kind_of}
use Rattle.dp_messages.specs.Properties.{is_disconnect}
use Rattle.dp_msg_meta.specs.declared.message.Control.TheVariants as control
use Rattle.dp_client.specs.Client as client
use Rattle.dp_client.specs.Taking.{EntriesAreTaken}
use Rattle.dp_epochs.specs.declared.effect.Effect.{Effect}
use Rattle.dp_epochs.specs.declared.effect.Effect.TheVariants.{Reopened}
use Rattle.dp_epochs.specs.declared.event.Event.{Event}
use Rattle.dp_epochs.specs.declared.event.Event.TheVariants as event
use Rattle.dp_epochs.specs.Effects.{IsEffect, EventsHaveEffects, ended_after}
use Rattle.dp_epochs.specs.Laws.{AreHistories, ShutBefore, shut_by}
use Rattle.dp_epochs.specs.Past.{Past, kept, refused, state_of, sure_step}
use Rattle.dp_epochs.specs.Rows.{has_room}
use Rattle.dp_epochs.specs.State.{State, after_event, epoch_of}
use Rattle.dp_schedule.specs.declared.action.Action.{Action}
use Rattle.dp_schedule.specs.declared.action.Action.TheVariants.{Act}
use Rattle.dp_schedule.specs.declared.action.Instruction.{Instruction}
use Rattle.dp_schedule.specs.declared.action.Instruction.TheVariants.{Say, Up, Take}
use Rattle.dp_sim.specs.declared.participant.LinkState.TheVariants.{Connected}
use Rattle.dp_sim.specs.Exchanges.{Participant, Exchange, acks, disconnected, done, exchanged}
use Rattle.dp_sim.specs.Exchanges.{heard, is_gone, next_entry, took_next, uplink_sent}
use Rattle.dp_sim.specs.Invariant.{IsParticipant, IsWorld}
use Rattle.dp_sim.specs.World.{World, after, participant_of, with_exchange}
use Rattle.dp_sim.proofs.Marks.{NextHere, NextLater, next-either}
use Rattle.dp_drill.specs.Flow.{Flow, flow_after, instructed, sent}

-- ---- lists

module _ {X : Type 0} where
  pub each-at : (P : X → Type 0) (xs : List X) (i : ℕ) (x : X) → AllByRecursion P xs
      → slice_get xs i ≡ Some x → P x
  each-at P [] i x h is = cc
  each-at P (y ∷ xs) zero x h is = let same : y ≡ x = cc in subst P same h.0
  each-at P (y ∷ xs) (suc i) x h is = each-at P xs i x h.1 is

  pub each-set : (P : X → Type 0) (xs : List X) (i : ℕ) (y : X) → AllByRecursion P xs → P y
      → AllByRecursion P (slice_set xs i y)
  each-set P [] i y h p = tt
  each-set P (x ∷ xs) zero y h p = (p, h.1)
  each-set P (x ∷ xs) (suc i) y h p = (h.0, each-set P xs i y h.1 p)

  pub each-both : (P : X → Type 0) (xs ys : List X) → AllByRecursion P xs → AllByRecursion P ys
      → AllByRecursion P (xs ++ ys)
  each-both P [] ys h k = k
  each-both P (x ∷ xs) ys h k = (h.0, each-both P xs ys h.1 k)

  pub set-same : (xs : List X) (i : ℕ) (x : X) → slice_get xs i ≡ Some x → slice_set xs i x ≡ xs
  set-same [] i x is = cc
  set-same (y ∷ xs) zero x is = let same : y ≡ x = cc in ap (λ z. z ∷ xs) (sym same)
  set-same (y ∷ xs) (suc i) x is = ap (λ zs. y ∷ zs) (set-same xs i x is)

module _ {X Y : Type 0} (f : X → Y) where
  pub map-set : (xs : List X) (i : ℕ) (x : X) → map f (slice_set xs i x) ≡ slice_set (map f xs) i
      (f x)
  map-set [] i x = refl
  map-set (y ∷ xs) zero x = refl
  map-set (y ∷ xs) (suc i) x = ap (λ zs. f y ∷ zs) (map-set xs i x)

  get-map : (xs : List X) (i : ℕ) → slice_get (map f xs) i ≡ option_map f (slice_get xs i)
  get-map [] i = refl
  get-map (x ∷ xs) zero = refl
  get-map (x ∷ xs) (suc i) = get-map xs i

  by-none : (b : Bool) (o : Option X) (p : Option Y) → p ≡ option_map f o
      → (if b then None else p) ≡ option_map f (if b then None else o)
  by-none true o p is = refl
  by-none false o p is = is

  pub numbered-map : (xs : List X) (n : ℕ) → numbered (map f xs) n ≡ option_map f (numbered xs n)
  numbered-map xs n =
      by-none (n == 0) (slice_get xs (n - 1)) (slice_get (map f xs) (n - 1)) (get-map xs (n - 1))

-- ---- what a drill has

-- a message that clients of a drill say: it is no control message, nor a part of a reset
abbrev pub IsPlain : Msg → Type 0
IsPlain m = 32 ≤ kind_of m

-- what they do
abbrev pub IsPlayed : Action → Type 0
IsPlayed (Act client (Say m)) = IsPlain m
IsPlayed (Act client Up) = ⊤
IsPlayed (Act client Take) = ⊤
IsPlayed other = ⊥

-- a client that is connected, in the first epoch, with such messages on its way
pub record IsPlaying (p : Participant) : Type 0 where
  pub link : p.link ≡ Connected
  pub epoch : p.state.epoch ≡ 0
  pub plain : AllByRecursion IsPlain p.uplink

-- the flow is that of the world, in the first epoch, in which clients do nothing else
pub record Follows (w : World) (f : Flow) : Type 0 where
  pub world : IsWorld w
  pub past : w.past ≡ f.past
  pub epoch : epoch_of (state_of w.past) ≡ 0
  pub uplinks : f.uplinks ≡ map (λ p. p.uplink) w.participants
  pub playing : AllByRecursion IsPlaying w.participants
  pub some : 0 < length w.participants

-- the laws that say it
pub record Laws : Type 0 where
  pub stays : (w : World) (action : Action) → IsWorld w → IsWorld (after w action)
  pub on_kept : (past : Past) (e : Event) → ShutBefore past
      → state_of (kept past e) ≡ after_event (state_of past) e
  pub on_refused : (past : Past) (e : Event) → state_of (refused past e) ≡ shut_by (state_of past) e
  pub effects : EventsHaveEffects
  pub marked : (past : Past) → AreHistories (state_of past)
  pub taking : EntriesAreTaken

-- ---- the epoch stays

no-disconnect : (m : Msg) → IsPlain m → is_disconnect m ≡ false
no-disconnect (msg.Control (control.Disconnect reason)) plain = absurd (omega (arith, plain))
no-disconnect m plain = refl

-- what is said opens no epoch
none-opened : (s : State) (conn : ℕ) (m : Msg) (effect : Effect) → IsPlain m
    → IsEffect s (event.Say conn m) effect → length (ended_after s effect) ≡ length s.ended
none-opened s conn m (Reopened c connection) plain cause =
    let is : m ≡ msg.Control control.ResetEnd = cause.1.is in
    let low : 32 ≤ kind_of (msg.Control control.ResetEnd) = subst IsPlain is plain in
    absurd (omega (arith, low))
none-opened s conn m effect plain cause = refl

epoch-stays : Laws → (past : Past) (conn : ℕ) (m : Msg) → ShutBefore past → IsPlain m
    → epoch_of (state_of (sure_step past (event.Say conn m))) ≡ epoch_of (state_of past)
epoch-stays laws past conn m before plain =
    let e = event.Say conn m in
    let s = state_of past in
    let h = laws.effects s e in
    cond_both (has_room past.journal e) (kept past e) (refused past e)
    (λ p. epoch_of (state_of p) ≡ epoch_of s)
    (λ fits. ap epoch_of (laws.on_kept past e before)
    ∙ ap (λ a. length a.state.ended) h.made
    ∙ none-opened s conn m h.effect plain h.cause)
    (λ full. ap epoch_of (laws.on_refused past e))

-- ---- one instruction

-- an exchange of the client of a number, if these were the uplinks, and what became of the flow
record IsMade (ups : List (List Msg)) (n : ℕ) (u : Exchange) (g : Flow) : Type 0 where
  pub past : u.past ≡ g.past
  pub epoch : epoch_of (state_of u.past) ≡ 0
  pub uplinks : g.uplinks ≡ slice_set ups (n - 1) u.participant.uplink
  pub playing : IsPlaying u.participant

module _ (laws : Laws) (w : World) (f : Flow) (h : Follows w f) (n : ℕ) (p : Participant)
    (found : participant_of w n ≡ Some p) where
  abbrev t : Exchange
  t = record { past = w.past; participant = p }

  abbrev ups : List (List Msg)
  ups = map (λ q. q.uplink) w.participants

  at : slice_get w.participants (n - 1) ≡ Some p
  at = (number-found w.participants n p found).1

  playing : IsPlaying p
  playing = each-at IsPlaying w.participants (n - 1) p h.playing at

  joined : IsParticipant (state_of w.past) n p
  joined = at_some (participant_of w n) (IsParticipant (state_of w.past) n) p
      (h.world.participants n) found

  abbrev Made : Exchange → Flow → Type 0
  Made u g = IsMade ups n u g

  same : Made t f
  same = record {
    past = h.past;
    epoch = h.epoch;
    uplinks = h.uplinks ∙ sym (set-same ups (n - 1) p.uplink
        (get-map (λ q. q.uplink) w.participants (n - 1) ∙ ap (option_map (λ q. q.uplink)) at));
    playing = playing;
  }

  said : (m : Msg) → IsPlain m → Made (done t (Say m)) (instructed f n (Say m) p.uplink)
  said m plain = record {
    past = h.past;
    epoch = h.epoch;
    uplinks = ap (λ xs. slice_set xs (n - 1) (p.uplink ++ m ∷ [])) h.uplinks;
    playing = record {
      link = playing.link;
      epoch = playing.epoch;
      plain = each-both IsPlain p.uplink (m ∷ []) playing.plain (plain, tt);
    };
  }

  sent-first : (m : Msg) (rest : List Msg) → IsPlain m → AllByRecursion IsPlain rest
      → Made (heard t m rest) (sent f n (m ∷ rest))
  sent-first m rest plain others = record {
    past = ap (λ conn. sure_step w.past (event.Say conn m)) joined.conn
        ∙ ap (λ past. sure_step past (event.Say n m)) h.past;
    epoch = epoch-stays laws w.past p.conn m h.world.before plain ∙ h.epoch;
    uplinks = ap (λ xs. slice_set xs (n - 1) rest) h.uplinks;
    playing = record { link = playing.link; epoch = playing.epoch; plain = others };
  }

  sent-made : (uplink : List Msg) → AllByRecursion IsPlain uplink
      → Made (uplink_sent t uplink) (sent f n uplink)
  sent-made [] plain = same
  sent-made (m ∷ rest) plain =
      subst (λ u. Made u (sent f n (m ∷ rest)))
      (sym (ap (λ b. if b then disconnected (heard t m rest) else heard t m rest)
      (no-disconnect m plain.0)))
      (sent-first m rest plain.0 plain.1)

  taken-made : (next : Option Entry) → next_entry t ≡ next → Made (took_next t next) f
  taken-made None is = same
  taken-made (Some entry) is =
      ⊎_elim (λ (next : NextHere (state_of w.past) p.state entry). record {
        past = h.past;
        epoch = h.epoch;
        uplinks = same.uplinks ∙ ap (slice_set ups (n - 1))
            (sym (ap (λ ack. p.uplink ++ acks ack) next.takes.ack ∙ append-nil p.uplink));
        playing = record {
          link = playing.link;
          epoch = ap (λ (s : client.State). s.epoch) next.takes.took ∙ playing.epoch;
          plain = subst (AllByRecursion IsPlain)
              (sym (ap (λ ack. p.uplink ++ acks ack) next.takes.ack ∙ append-nil p.uplink))
              playing.plain;
        };
      })
      (λ (next : NextLater (state_of w.past) p.state entry).
      absurd (omega (arith, next.less, h.epoch)))
      (next-either laws.taking (state_of w.past) p.state entry (laws.marked w.past)
      (record { began = joined.began; entered = joined.entered }) joined.known is)

  done-made : (instruction : Instruction) → IsPlayed (Act n instruction)
      → Made (done t instruction) (instructed f n instruction p.uplink)
  done-made (Say m) plain = said m plain
  done-made Up plain = sent-made p.uplink playing.plain
  done-made Take plain = taken-made (next_entry t) refl
  done-made other plain = absurd plain

  exchange-made : (instruction : Instruction) → IsPlayed (Act n instruction)
      → Made (exchanged t instruction) (instructed f n instruction p.uplink)
  exchange-made instruction played =
      subst (λ u. Made u (instructed f n instruction p.uplink))
      (sym (ap (λ link. if is_gone link instruction then t else done t instruction) playing.link))
      (done-made instruction played)

  pub exchange-follows : (instruction : Instruction) → IsPlayed (Act n instruction)
      → IsWorld (with_exchange w n (exchanged t instruction))
      → Follows (with_exchange w n (exchanged t instruction)) (instructed f n instruction p.uplink)
  exchange-follows instruction played world =
      let made = exchange-made instruction played in
      let u = exchanged t instruction in
      record {
        world = world;
        past = made.past;
        epoch = made.epoch;
        uplinks = made.uplinks
            ∙ sym (map-set (λ q. q.uplink) w.participants (n - 1) u.participant);
        playing = each-set IsPlaying w.participants (n - 1) u.participant h.playing made.playing;
        some = omega (arith, h.some, length-set w.participants (n - 1) u.participant);
      }

-- ---- all of them

-- by whether there is such a client
acted-follows : Laws → (w : World) (f : Flow) → Follows w f → (n : ℕ) (instruction : Instruction)
    → IsPlayed (Act n instruction) → (o : Option Participant) → participant_of w n ≡ o
    → IsWorld (option_map_or (λ p. with_exchange w n
    (exchanged (record { past = w.past; participant = p }) instruction)) o w)
    → Follows (option_map_or (λ p. with_exchange w n
    (exchanged (record { past = w.past; participant = p }) instruction)) o w)
    (option_map_or (instructed f n instruction) (option_map (λ p. p.uplink) o) f)
acted-follows laws w f h n instruction played None found world = h
acted-follows laws w f h n instruction played (Some p) found world =
    exchange-follows laws w f h n p found instruction played world

pub action-follows : Laws → (w : World) (f : Flow) (action : Action) → IsPlayed action
    → Follows w f → Follows (after w action) (flow_after f action)
unfolding flow_after
action-follows laws w f (Act n instruction) played h =
    subst (λ o. Follows (after w (Act n instruction))
    (option_map_or (instructed f n instruction) o f))
    (sym (ap (λ xs. numbered xs n) h.uplinks ∙ numbered-map (λ p. p.uplink) w.participants n))
    (acted-follows laws w f h n instruction played (participant_of w n) refl
    (laws.stays w (Act n instruction) h.world))
action-follows laws w f other played h = absurd played

pub actions-follow : Laws → (w : World) (f : Flow) (actions : List Action)
    → AllByRecursion IsPlayed actions → Follows w f
    → Follows (fold after w actions) (fold flow_after f actions)
actions-follow laws w f [] played h = h
actions-follow laws w f (action ∷ actions) played h =
    actions-follow laws (after w action) (flow_after f action) actions played.1
    (action-follows laws w f action played.0 h)
