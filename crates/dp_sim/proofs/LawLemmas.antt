-- What one event leaves of a session: no history loses an entry, and connections stay open.
use Rattle.std.proofs.Common.{◌≡◌, ℕ, ◌+◌, ◌-◌, ◌≤◌, Bool, true, false, if◌then◌else◌, List, []}
use Rattle.std.proofs.Common.{◌∷◌}
use Rattle.std.proofs.Common.{◌++◌, length, All, arith}
use Rattle.std.proofs.Common.{Option, None, Some, is_some, refl, sym, ap, subst, ◌∙◌, ⊎_elim}
use Rattle.std.proofs.Common.{append-nil, append_assoc, length-append}
use Rattle.std.specs.Prelude.{slice_set, slice_index_or}
use Rattle.std.proofs.Math.ListN.{length-set}
use Rattle.std.proofs.lemmas.Bool.{cond_both, cases_eq}
use Rattle.dp_messages.specs.declared.message.Msg.{Msg}
use Rattle.dp_client.specs.Taking.{EntriesAreTaken}
use Rattle.dp_epochs.specs.declared.connection.Connection.{Connection}
use Rattle.dp_epochs.specs.declared.connection.Ending.TheVariants as ending
use Rattle.dp_epochs.specs.declared.effect.Effect.{Effect}
use Rattle.dp_epochs.specs.declared.effect.Effect.TheVariants.{Nothing, TakesUp, Joined, Left}
use Rattle.dp_epochs.specs.declared.event.Event.{Event}
use Rattle.dp_epochs.specs.declared.event.Event.TheVariants as event
use Rattle.dp_epochs.specs.declared.event.Reply.{Reply}
use Rattle.dp_epochs.specs.declared.event.Reply.TheVariants as reply
use Rattle.dp_epochs.specs.declared.event.ShutAt.{ShutAt}
use Rattle.dp_epochs.specs.Connections.{is_open}
use Rattle.dp_epochs.specs.State.{State, after_event, after_shut, epoch_of, here, history_of}
use Rattle.dp_epochs.specs.State.{open_in, open_connection, with_connection, new_connection}
use Rattle.dp_epochs.specs.Effects.{connections_after, answer_of, IsStill, IsEffect}
use Rattle.dp_epochs.specs.Effects.{EventsHaveEffects}
use Rattle.dp_epochs.specs.Rows.{has_room}
use Rattle.dp_epochs.specs.Past.{Past, state_after, state_of, kept, refused, answer_to, sure_step}
use Rattle.dp_epochs.specs.Past.{sure_answer}
use Rattle.dp_epochs.specs.Laws.{Continues, AreHistories, ShutBefore, shut_by}
use Rattle.dp_epochs.proofs.OpenConnections.{open_is_found, found_is_open, other_stays_open}
use Rattle.dp_lists.proofs.Options.{option_both}
use Rattle.dp_lists.proofs.Numbered.{numbered-same, numbered-old, numbered-new}

-- no history loses an entry, and no epoch
pub record Grows (s t : State) : Type 0 where
  pub epochs : epoch_of s ≤ epoch_of t
  pub histories : (epoch : ℕ) → Continues (history_of s epoch) (history_of t epoch)

-- a connection of the number is open
abbrev pub IsOpen : State → ℕ → Type 0
IsOpen s number = is_some (open_connection s number) ≡ true

-- the histories grow so, and of the connections these stay open
pub record Keeps (s : State) (Stays : ℕ → Type 0) (t : State) : Type 0 where
  pub grows : Grows s t
  pub count : length t.connections ≡ length s.connections
  pub stay : (n : ℕ) → Stays n → IsOpen s n → IsOpen t n

-- all of them, and all but one
abbrev pub AllStay : ℕ → Type 0
AllStay n = Unit {0}

abbrev pub OthersStay : ℕ → ℕ → Type 0
OthersStay conn n = n ≡ conn → ⊥

-- the histories are the same
grows-same : (s t : State) → t.ended ≡ s.ended → t.live ≡ s.live → Grows s t
grows-same s t ended live = record {
  epochs = omega (arith, ap length ended);
  histories = λ epoch. (
    [],
    ap (λ hs. slice_index_or (hs ++ t.live ∷ []) epoch []) ended
        ∙ ap (λ h. slice_index_or (s.ended ++ h ∷ []) epoch []) live
        ∙ sym (append-nil (history_of s epoch)),
  );
}

pub grows-not : (s : State) → Grows s s
grows-not s = grows-same s s refl refl

pub grows-both : (s t u : State) → Grows s t → Grows t u → Grows s u
grows-both s t u h k = record {
  epochs = omega (arith, h.epochs, k.epochs);
  histories = λ epoch.
      let first = h.histories epoch in
      let then_ = k.histories epoch in (
        first.0 ++ then_.0,
        then_.1 ∙ ap (λ xs. xs ++ then_.0) first.1
            ∙ append_assoc (history_of s epoch) first.0 then_.0,
      );
}

pub keeps-all : (s : State) (Stays : ℕ → Type 0) → Keeps s Stays s
keeps-all s Stays = record { grows = grows-not s; count = refl; stay = λ n stays h. h }

pub keeps-fewer : (s t : State) (Stays : ℕ → Type 0) → Keeps s AllStay t → Keeps s Stays t
keeps-fewer s t Stays h = record {
  grows = h.grows;
  count = h.count;
  stay = λ n stays up. h.stay n
      tt up;
}

pub keeps-both : (s t u : State) (Stays : ℕ → Type 0) → Keeps s Stays t → Keeps t Stays u
    → Keeps s Stays u
keeps-both s t u Stays h k = record {
  grows = grows-both s t u h.grows k.grows;
  count = k.count ∙ h.count;
  stay = λ n stays up. k.stay n stays (h.stay n stays up);
}

-- what is there
there : {X : Type 0} (o : Option X) → is_some o ≡ true → (x : X) × (o ≡ Some x)
there None h = cc
there (Some x) h = (x, refl)

-- a connection that was found open becomes another: the others stay open
open-others : (cs : List Connection) (conn : ℕ) (c d : Connection) (n : ℕ)
    → open_in cs conn ≡ Some c → (n ≡ conn → ⊥)
    → is_some (open_in cs n) ≡ true → is_some (open_in (slice_set cs (conn - 1) d) n) ≡ true
open-others cs conn c d n found ne up =
    let o = there (open_in cs n) up in
    ap is_some (other_stays_open cs conn c d n o.0 found ne o.1)

-- and it too, if the other is open
open-all : (cs : List Connection) (conn : ℕ) (c d : Connection) (n : ℕ) → open_in cs conn ≡ Some c
    → is_open d ≡ true
    → is_some (open_in cs n) ≡ true → is_some (open_in (slice_set cs (conn - 1) d) n) ≡ true
open-all cs conn c d n found high up =
    let set = slice_set cs (conn - 1) d in
    ⊎_elim (λ (same : n ≡ conn).
    ap (λ k. is_some (open_in set k)) same
    ∙ ap is_some (found_is_open set conn d
    (numbered-same cs conn c d (open_is_found cs conn c found).0) high))
    (λ (ne : n ≡ conn → ⊥). open-others cs conn c d n found ne up)
    (cases_eq n conn)

open-more : (cs : List Connection) (d : Connection) (n : ℕ) → is_some (open_in cs n) ≡ true
    → is_some (open_in (cs ++ d ∷ []) n) ≡ true
open-more cs d n up =
    let o = there (open_in cs n) up in
    let h = open_is_found cs n o.0 o.1 in
    ap is_some (found_is_open (cs ++ d ∷ []) n o.0 (numbered-old cs (d ∷ []) n o.0 h.0) h.1)

-- ---- effects

-- connections stay open, but for the one that the event closes
open-stay : (s : State) (e : Event) (effect : Effect) → IsEffect s e effect → (n : ℕ)
    → (e ≡ event.Close n → ⊥) → is_some (open_in s.connections n) ≡ true
    → is_some (open_in (connections_after s effect) n) ≡ true
open-stay s e (TakesUp conn c) cause n other up =
    open-all s.connections conn c (record c { acknowledged = epoch_of s }) n cause.0.at.found
    cause.0.at.running up
open-stay s e (Joined user next) cause n other up =
    open-more s.connections (new_connection s user) n up
open-stay s e (Left conn c next) cause n other up =
    open-others s.connections conn c (record c { ending = ending.Left (here s) }) n cause.at.found
    (λ same. other (cause.came ∙ ap (λ k. event.Close k) (sym same))) up
open-stay s e effect cause n other up = up

-- what an Open's answer says of the connections: one more, which is open, or as many as before
abbrev pub Answers : State → List Connection → Reply → Type 0
Answers s connections (reply.Opened conn user epoch at) =
    (length connections ≡ length s.connections + 1) × (conn ≡ length s.connections + 1)
    × (epoch ≡ length s.ended)
    × (is_some (open_in connections conn) ≡ true)
Answers s connections other = length connections ≡ length s.connections

answers-still : (s : State) (e : Event) (r : Reply) → IsStill s e r → Answers s s.connections r
answers-still s e (reply.Opened conn user epoch at) still = absurd still
answers-still s e r still = refl

effect-answers : (s : State) (e : Event) (effect : Effect) → IsEffect s e effect
    → Answers s (connections_after s effect) (answer_of s effect)
effect-answers s e (Nothing answer) cause = answers-still s e answer cause
effect-answers s e (TakesUp conn c) cause =
    length-set s.connections (conn - 1) (record c { acknowledged = epoch_of s })
effect-answers s e (Joined user next) cause =
    let d = new_connection s user in (
      length-append s.connections (d ∷ []),
      refl,
      refl,
      ap is_some (found_is_open (s.connections ++ d ∷ []) (length s.connections + 1) d
          (numbered-new s.connections d) refl),
    )
effect-answers s e (Left conn c next) cause =
    length-set s.connections (conn - 1) (record c { ending = ending.Left (here s) })
effect-answers s e effect cause = refl

-- no user asks to join by the event
abbrev IsNoOpen : Event → Type 0
IsNoOpen e = (name : List ℕ) (registered : Bool) → e ≡ event.Open name registered → ⊥

effect-count : (s : State) (e : Event) (effect : Effect) → IsEffect s e effect → IsNoOpen e
    → length (connections_after s effect) ≡ length s.connections
effect-count s e (TakesUp conn c) cause closed =
    length-set s.connections (conn - 1) (record c { acknowledged = epoch_of s })
effect-count s e (Joined user next) cause closed =
    absurd (closed cause.name cause.registered cause.came)
effect-count s e (Left conn c next) cause closed =
    length-set s.connections (conn - 1) (record c { ending = ending.Left (here s) })
effect-count s e effect cause closed = refl

keeps-shut : (s : State) (conn : ℕ) → Keeps s (OthersStay conn) (after_shut s conn)
keeps-shut s conn =
    option_both (λ c. with_connection s conn (record c { ending = ending.Shut }))
    (open_connection s conn) s
    (Keeps s (OthersStay conn))
    (λ c found. let d : Connection = record c { ending = ending.Shut } in record {
      grows = grows-same s (with_connection s conn d) refl refl;
      count = length-set s.connections (conn - 1) d;
      stay = λ n other up. open-others s.connections conn c d n found other up;
    })
    (keeps-all s (OthersStay conn))

-- ---- joining

pub record Joins (s : State) (r : Reply) (t : State) : Type 0 where
  pub grows : Grows s t
  pub stay : (n : ℕ) → IsOpen s n → IsOpen t n
  pub answer : Answers s t.connections r

-- ---- where one more event leads

-- the laws of sessions that say it
pub record Leading : Type 0 where
  pub on_kept : (past : Past) (e : Event) → ShutBefore past
      → state_of (kept past e) ≡ after_event (state_of past) e
  pub on_refused : (past : Past) (e : Event) → state_of (refused past e) ≡ shut_by (state_of past) e
  pub before : (past : Past) (e : Event) → ShutBefore past → ShutBefore (sure_step past e)
  pub effects : EventsHaveEffects
  pub histories : (journal : List Event) (shut : List ShutAt) (e : Event) (epoch : ℕ)
      → All (λ s. s.n ≤ length journal) shut
      → Continues (history_of (state_after journal shut) epoch)
      (history_of (state_after (journal ++ e ∷ []) shut) epoch)
  pub epochs : (s : State) (e : Event) → epoch_of s ≤ epoch_of (after_event s e)
  pub marked : (past : Past) → AreHistories (state_of past)
  pub taking : EntriesAreTaken

grows-kept : Leading → (past : Past) (e : Event) → ShutBefore past
    → Grows (state_of past) (state_of (kept past e))
grows-kept laws past e before = record {
  epochs = subst (λ t. epoch_of (state_of past) ≤ epoch_of t) (sym (laws.on_kept past e before))
      (laws.epochs (state_of past) e);
  histories = λ epoch. laws.histories past.journal past.shut e epoch before;
}

keeps-kept : Leading → (past : Past) (e : Event) (Stays : ℕ → Type 0) → ShutBefore past
    → IsNoOpen e → ((n : ℕ) → Stays n → e ≡ event.Close n → ⊥)
    → Keeps (state_of past) Stays (state_of (kept past e))
keeps-kept laws past e Stays before closed far =
    let s = state_of past in
    let h = laws.effects s e in
    let is : (state_of (kept past e)).connections ≡ connections_after s h.effect =
    ap (λ t. t.connections) (laws.on_kept past e before) ∙ ap (λ a. a.state.connections) h.made in
    record {
      grows = grows-kept laws past e before;
      count = ap length is ∙ effect-count s e h.effect h.cause closed;
      stay = λ n stays up. ap (λ cs. is_some (open_in cs n)) is
          ∙ open-stay s e h.effect h.cause n (far n stays) up;
    }

keeps-step : Leading → (past : Past) (e : Event) (Stays : ℕ → Type 0) → ShutBefore past
    → IsNoOpen e → ((n : ℕ) → Stays n → e ≡ event.Close n → ⊥)
    → Keeps (state_of past) Stays (shut_by (state_of past) e)
    → Keeps (state_of past) Stays (state_of (sure_step past e))
keeps-step laws past e Stays before closed far shut =
    cond_both (has_room past.journal e) (kept past e) (refused past e)
    (λ p. Keeps (state_of past) Stays (state_of p))
    (λ fits. keeps-kept laws past e Stays before closed far)
    (λ full. subst (Keeps (state_of past) Stays) (sym (laws.on_refused past e)) shut)

pub keeps-say : Leading → (past : Past) (conn : ℕ) (m : Msg) → ShutBefore past
    → Keeps (state_of past) AllStay (state_of (sure_step past (event.Say conn m)))
keeps-say laws past conn m before =
    keeps-step laws past (event.Say conn m) AllStay before (λ name registered is. cc)
    (λ n stays is. cc) (keeps-all (state_of past) AllStay)

pub keeps-close : Leading → (past : Past) (conn : ℕ) → ShutBefore past
    → Keeps (state_of past) (OthersStay conn) (state_of (sure_step past (event.Close conn)))
keeps-close laws past conn before =
    keeps-step laws past (event.Close conn) (OthersStay conn) before (λ name registered is. cc)
    (λ n other is. let same : conn ≡ n = cc in other (sym same))
    (keeps-shut (state_of past) conn)

joins-kept : Leading → (past : Past) (e : Event) → ShutBefore past
    → ((n : ℕ) → e ≡ event.Close n → ⊥)
    → Joins (state_of past) (answer_to past e) (state_of (kept past e))
joins-kept laws past e before closed =
    let s = state_of past in
    let h = laws.effects s e in
    let is : (state_of (kept past e)).connections ≡ connections_after s h.effect =
    ap (λ t. t.connections) (laws.on_kept past e before) ∙ ap (λ a. a.state.connections) h.made in
    let answer : answer_to past e ≡ answer_of s h.effect = ap (λ a. a.reply) h.made in
    record {
      grows = grows-kept laws past e before;
      stay = λ n up. ap (λ cs. is_some (open_in cs n)) is
          ∙ open-stay s e h.effect h.cause n (closed n) up;
      answer = subst (Answers s (state_of (kept past e)).connections) (sym answer)
          (subst (λ cs. Answers s cs (answer_of s h.effect)) (sym is)
          (effect-answers s e h.effect h.cause));
    }

pub joins-open : Leading → (past : Past) (name : List ℕ) (registered : Bool) → ShutBefore past
    → Joins (state_of past) (sure_answer past (event.Open name registered))
    (state_of (sure_step past (event.Open name registered)))
joins-open laws past name registered before = by_room (has_room past.journal
    (event.Open name registered))
  where
    by_room : (b : Bool) → Joins (state_of past) (if b then answer_to past
        (event.Open name registered) else reply.Ended)
        (state_of (if b then kept past (event.Open name registered)
        else refused past (event.Open name registered)))
    by_room true =
        joins-kept laws past (event.Open name registered) before (λ n is. cc)
    by_room false =
        subst (Joins (state_of past) reply.Ended) (sym (laws.on_refused past
        (event.Open name registered)))
        (record {
          grows = grows-not (state_of past);
          stay = λ n up. up;
          answer = refl;
        })
