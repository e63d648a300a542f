-- The state of a session grows by each step of a log, and a feed stays one.
use Rattle.std.proofs.Common.{◌≡◌, ◌⊎◌, ℕ, ◌-◌, ◌≤◌, Bool, true, false, not, List, [], ◌∷◌, ◌++◌}
use Rattle.std.proofs.Common.{length, All, Option, None, Some, Ok, Err, refl, sym, ap, subst, ◌∙◌}
use Rattle.std.proofs.Common.{⊎_elim, inl, inr, arith, append_assoc, append-nil, length-append}
use Rattle.std.specs.Prelude.{slice_set, slice_index_or, MatchBool}
use Rattle.std.specs.Option.{option_map_or}
use Rattle.std.proofs.lemmas.Bool.{cases_eq}
use Rattle.std.proofs.lemmas.List.Elements.{All-weaker, All-push}
use mathlib.Core.List.{IsPrefix}
use Rattle.dp_lists.specs.Numbered.{numbered}
use Rattle.dp_lists.proofs.Numbered.{number-found, numbered-other, numbered-same, numbered-old}
use Rattle.dp_hall.specs.Logs.{left_by}
use Rattle.dp_messages.specs.declared.message.Entry.{Entry}
use Rattle.dp_epochs.specs.Connections.{is_ended}
use Rattle.dp_epochs.specs.declared.connection.Place.{Place}
use Rattle.dp_epochs.specs.declared.connection.Ending.{Ending}
use Rattle.dp_epochs.specs.declared.connection.Ending.TheVariants as ending
use Rattle.dp_epochs.specs.declared.connection.Connection.{Connection}
use Rattle.dp_epochs.specs.declared.effect.Effect.{Effect}
use Rattle.dp_epochs.specs.declared.effect.Effect.TheVariants.{TakesUp, Joined, Left, Reopened}
use Rattle.dp_epochs.specs.declared.event.Event.{Event}
use Rattle.dp_epochs.specs.declared.event.Event.TheVariants as event
use Rattle.dp_epochs.specs.declared.event.Reply.{Reply}
use Rattle.dp_epochs.specs.declared.event.Reply.TheVariants.{Ended}
use Rattle.dp_epochs.specs.declared.event.ShutAt.{ShutAt}
use Rattle.dp_epochs.specs.Rows.{has_room}
use Rattle.dp_epochs.specs.State.{State, epoch_of, here, history_of, open_connection}
use Rattle.dp_epochs.specs.State.{with_connection, new_connection, noted, after_event}
use Rattle.dp_epochs.specs.Effects.{made, connections_after, IsEffect, EventsHaveEffects}
use Rattle.dp_epochs.specs.Past.{Past, Step, Serves, Accepts, FailsFirst, Refuses, kept, refused}
use Rattle.dp_epochs.specs.Past.{quieted, state_of, state_after}
use Rattle.dp_epochs.specs.Laws.{Continues, ShutBefore, shut_by}
use Rattle.dp_epochs.proofs.OpenConnections.{open_is_found}
use Rattle.dp_session_laws.specs.Growing.{IsAfter, EndsLater, ConnectionLater, GrowsInto}
use Rattle.dp_session_laws.specs.Logs.{ReplyOrMemory, LogEntry, IsSessionLog}

-- what the crate below says of epochs
pub record EpochLaws : Type 0 where
  pub effects : EventsHaveEffects
  pub histories : (journal : List Event) (shut : List ShutAt) (e : Event) (epoch : ℕ)
      → All (λ s. s.n ≤ length journal) shut
      → Continues (history_of (state_after journal shut) epoch)
      (history_of (state_after (journal ++ e ∷ []) shut) epoch)
  pub kept_leads : (past : Past) (e : Event) → ShutBefore past
      → state_of (kept past e) ≡ after_event (state_of past) e
  pub refused_leads : (past : Past) (e : Event)
      → state_of (refused past e) ≡ shut_by (state_of past) e

-- ---- lists

pub prefix-same : {X : Type 0} (xs : List X) → IsPrefix xs xs
prefix-same xs = ([], append-nil xs)

pub prefix-then : {X : Type 0} (xs ys zs : List X) → IsPrefix xs ys → IsPrefix ys zs
    → IsPrefix xs zs
prefix-then xs ys zs p q = (
  p.0 ++ q.0,
  sym (append_assoc xs p.0 q.0) ∙ ap (λ l. l ++ q.0) p.1 ∙ q.1,
)

pub prefix-length : {X : Type 0} (xs ys : List X) → IsPrefix xs ys → length xs ≤ length ys
prefix-length xs ys p = omega (arith, ap length p.1, length-append xs p.0)

-- the live history is that of the live epoch
last-live : (ended : List (List Entry)) (live : List Entry)
    → slice_index_or (ended ++ live ∷ []) (length ended) [] ≡ live
last-live [] live = refl
last-live (history ∷ ended) live = last-live ended live

pub live-history : (s : State) → history_of s (epoch_of s) ≡ s.live
live-history s = last-live s.ended s.live

-- ---- growing

ends-same : (s t : State) (e : Ending) → EndsLater s t e e
ends-same s t ending.Running = tt
ends-same s t (ending.Left place) = refl
ends-same s t ending.Shut = refl

connection-same : (s t : State) (c : Connection) → ConnectionLater s t c c
connection-same s t c =
    record { user = refl; joined = refl; ending = ends-same s t c.ending }

pub grows-same : (s : State) → GrowsInto s s
grows-same s = record {
  epochs = omega arith;
  histories = λ epoch. prefix-same (history_of s epoch);
  connections = λ conn old is. (old, is, connection-same s s old);
}

-- a place after a later live history is after the earlier one
after-earlier : (s t : State) (place : Place) → GrowsInto s t → IsAfter t place → IsAfter s place
after-earlier s t place grows (inl later) = inl (omega (arith, grows.epochs))
after-earlier s t place grows (inr (same, after)) =
    ⊎_elim
    (λ (e : epoch_of s ≡ epoch_of t).
    let longer : length s.live ≤ length t.live =
    subst (λ n. length s.live ≤ n) (ap length (live-history t))
    (subst (λ k. length s.live ≤ length (history_of t k)) e
    (subst (λ l. length l ≤ length (history_of t (epoch_of s))) (live-history s)
    (prefix-length (history_of s (epoch_of s)) (history_of t (epoch_of s))
    (grows.histories (epoch_of s))))) in
    inr (same ∙ sym e, omega (arith, after, longer)))
    (λ (ne : epoch_of s ≡ epoch_of t → ⊥). inl (omega (arith, grows.epochs, same)))
    (cases_eq (epoch_of s) (epoch_of t))

ends-then : (s t u : State) (a b c : Ending) → GrowsInto s t → epoch_of t ≤ epoch_of u
    → EndsLater s t a b → EndsLater t u b c → EndsLater s u a c
ends-then s t u ending.Running ending.Running ending.Running grows more p q = tt
ends-then s t u ending.Running ending.Running (ending.Left place) grows more p q =
    (after-earlier s t place grows q.0, q.1)
ends-then s t u ending.Running ending.Running ending.Shut grows more p q = tt
ends-then s t u ending.Running (ending.Left place) c grows more p q =
    subst (EndsLater s u ending.Running) (sym q) (p.0, omega (arith, p.1, more))
ends-then s t u ending.Running ending.Shut c grows more p q =
    subst (EndsLater s u ending.Running) (sym q) tt
ends-then s t u _ b c grows more p q = subst (λ e. EndsLater t u e c) p q

pub grows-then : (s t u : State) → GrowsInto s t → GrowsInto t u → GrowsInto s u
grows-then s t u p q = record {
  epochs = omega (arith, p.epochs, q.epochs);
  histories =
      λ epoch. prefix-then (history_of s epoch) (history_of t epoch) (history_of u epoch)
      (p.histories epoch) (q.histories epoch);
  connections =
      λ conn old is.
      let b = p.connections conn old is in
      let c = q.connections conn b.0 b.1 in (
        c.0,
        c.1,
        record {
          user = c.2.user ∙ b.2.user;
          joined = c.2.joined ∙ b.2.joined;
          ending =
              ends-then s t u old.ending b.0.ending c.0.ending p q.epochs b.2.ending c.2.ending;
        },
      );
}

-- ---- one connection is changed

-- each connection of these is there among those, and is later the same
abbrev LaterIn : State → State → List Connection → List Connection → Type 0
LaterIn s t old new =
    (n : ℕ) (x : Connection) → numbered old n ≡ Some x
    → (y : Connection) × (numbered new n ≡ Some y) × ConnectionLater s t x y

all-same : (s t : State) (cs : List Connection) → LaterIn s t cs cs
all-same s t cs n x is = (x, is, connection-same s t x)

one-changed : (s t : State) (cs : List Connection) (conn : ℕ) (c d : Connection)
    → numbered cs conn ≡ Some c → ConnectionLater s t c d
    → LaterIn s t cs (slice_set cs (conn - 1) d)
one-changed s t cs conn c d there later n x is =
    ⊎_elim (λ (same : n ≡ conn).
    let both : Some c ≡ Some x = sym there ∙ ap (λ k. numbered cs k) (sym same) ∙ is in
    let one : c ≡ x = cc in (
      d,
      ap (λ k. numbered (slice_set cs (conn - 1) d) k) same ∙ numbered-same cs conn c d there,
      subst (λ y. ConnectionLater s t y d) one later,
    ))
    (λ (ne : n ≡ conn → ⊥). (
      x,
      numbered-other cs conn n d (number-found cs conn c there).0 ne ∙ is,
      connection-same s t x,
    ))
    (cases_eq n conn)

-- an open connection may leave after the live history, and may be shut
open-leaves : (s t : State) (e : Ending) → not (is_ended e) ≡ true → epoch_of s ≤ epoch_of t
    → EndsLater s t e (ending.Left (here s))
open-leaves s t ending.Running up more = (inr (refl, omega arith), more)
open-leaves s t (ending.Left place) up more = cc
open-leaves s t ending.Shut up more = cc

open-shuts : (s t : State) (e : Ending) → not (is_ended e) ≡ true → EndsLater s t e ending.Shut
open-shuts s t ending.Running up = tt
open-shuts s t (ending.Left place) up = cc
open-shuts s t ending.Shut up = cc

-- ---- an event

connections-grow : (s t : State) (e : Event) (effect : Effect) → IsEffect s e effect
    → epoch_of s ≤ epoch_of t → LaterIn s t s.connections (connections_after s effect)
connections-grow s t e (TakesUp conn c) cause more =
    one-changed s t s.connections conn c (record c { acknowledged = epoch_of s })
    cause.0.at.given
    (record { user = refl; joined = refl; ending = ends-same s t c.ending })
connections-grow s t e (Joined user next) cause more =
    λ n x is.
    (x, numbered-old s.connections (new_connection s user ∷ []) n x is, connection-same s t x)
connections-grow s t e (Left conn c next) cause more =
    one-changed s t s.connections conn c (record c { ending = ending.Left (here s) })
    cause.at.given (record {
      user = refl;
      joined = refl;
      ending = open-leaves s t c.ending cause.at.running more;
    })
connections-grow s t e effect cause more = all-same s t s.connections

-- the epochs are no fewer after an effect
epochs-grow : (s : State) (e : Event) (effect : Effect)
    → epoch_of s ≤ epoch_of (made s e effect).state
epochs-grow s e (Reopened conn c) = omega (arith, length-append s.ended (s.live ∷ []))
epochs-grow s e effect = omega arith

event-grows : EpochLaws → (s : State) (e : Event)
    → ((epoch : ℕ) → IsPrefix (history_of s epoch) (history_of (after_event s e) epoch))
    → GrowsInto s (after_event s e)
event-grows laws s e histories =
    let h = laws.effects s e in
    let more : epoch_of s ≤ epoch_of (after_event s e) =
    subst (λ a. epoch_of s ≤ epoch_of (noted s a)) (sym h.made) (epochs-grow s e h.effect) in
    record {
      epochs = more;
      histories = histories;
      connections =
          subst (λ a. LaterIn s (after_event s e) s.connections (noted s a).connections)
          (sym h.made)
          (connections-grow s (after_event s e) e h.effect h.cause more);
    }

-- ---- a Close that was refused

shut-grows-at : (s : State) (conn : ℕ) (found : Option Connection)
    → open_connection s conn ≡ found
    → GrowsInto s (option_map_or (λ connection. with_connection s conn (record connection
    { ending = ending.Shut })) found s)
shut-grows-at s conn None is = grows-same s
shut-grows-at s conn (Some c) is =
    let f = open_is_found s.connections conn c is in
    let t = with_connection s conn (record c { ending = ending.Shut }) in
    record {
      epochs = omega arith;
      histories = λ epoch. prefix-same (history_of s epoch);
      connections =
          one-changed s t s.connections conn c (record c { ending = ending.Shut }) f.0
          (record {
            user = refl;
            joined = refl;
            ending = open-shuts s t c.ending f.1;
          });
    }

shut-grows : (s : State) (e : Event) → GrowsInto s (shut_by s e)
shut-grows s (event.Open name registered) = grows-same s
shut-grows s (event.Say conn m) = grows-same s
shut-grows s (event.Close conn) = shut-grows-at s conn (open_connection s conn) refl

-- ---- a step

weaker : {m : ℕ} (n : ℕ) (shut : List ShutAt) → All (λ s. s.n ≤ m) shut → m ≤ n
    → All (λ s. s.n ≤ n) shut
weaker {m} n shut before le =
    All-weaker (λ (s : ShutAt). s.n ≤ m) (λ (s : ShutAt). s.n ≤ n) (λ s h. omega (arith, h, le))
    shut before

before-kept : (past : Past) (e : Event) → ShutBefore past → ShutBefore (kept past e)
before-kept past e before =
    weaker (length (past.journal ++ e ∷ [])) past.shut before
    (omega (arith, length-append past.journal (e ∷ [])))

before-refused : (past : Past) (e : Event) → ShutBefore past → ShutBefore (refused past e)
before-refused past (event.Open name registered) before = before
before-refused past (event.Say conn m) before = before
before-refused past (event.Close conn) before =
    All-push (λ (s : ShutAt). s.n ≤ length past.journal) past.shut
    (record { conn = conn; n = length past.journal }) before (omega arith)

-- a session has grown, and its closings that were refused are of no later time
pub record Goes (old new : Past) : Type 0 where
  pub grows : GrowsInto (state_of old) (state_of new)
  pub before : ShutBefore new

goes-kept : EpochLaws → (old : Past) (e : Event) → ShutBefore old → Goes old (kept old e)
goes-kept laws old e before =
    let leads : state_of (kept old e) ≡ after_event (state_of old) e = laws.kept_leads old e before
    in
    let histories : (epoch : ℕ) → IsPrefix (history_of (state_of old) epoch)
    (history_of (after_event (state_of old) e) epoch) =
    λ epoch.
    let h = laws.histories old.journal old.shut e epoch before in
    (h.0, sym h.1 ∙ ap (λ s. history_of s epoch) leads) in
    record {
      grows =
          subst (GrowsInto (state_of old)) (sym leads)
          (event-grows laws (state_of old) e histories);
      before = before-kept old e before;
    }

goes-refused : EpochLaws → (old : Past) (e : Event) → ShutBefore old → Goes old (refused old e)
goes-refused laws old e before = record {
  grows =
      subst (GrowsInto (state_of old)) (sym (laws.refused_leads old e))
      (shut-grows (state_of old) e);
  before = before-refused old e before;
}

goes-same : (old : Past) → ShutBefore old → Goes old old
goes-same old before = record { grows = grows-same (state_of old); before = before }

goes-quieted : (old : Past) (e : Event) → ShutBefore old → Goes old (quieted old e)
goes-quieted old (event.Open name registered) before = goes-same old before
goes-quieted old (event.Say conn m) before = goes-same old before
goes-quieted old (event.Close conn) before =
    record { grows = grows-same (state_of old); before = before }

-- it goes on after a fault, which leaves the events and the closings
goes-broken : (old mid new : Past) → new.journal ≡ mid.journal → new.shut ≡ mid.shut
    → Goes old mid → Goes old new
goes-broken old mid new journal shut goes = record {
  grows =
      subst (GrowsInto (state_of old))
      (ap (λ j. state_after j mid.shut) (sym journal) ∙ ap (state_after new.journal) (sym shut))
      goes.grows;
  before =
      subst (λ j. All (λ s. s.n ≤ length j) new.shut) (sym journal)
      (subst (λ l. All (λ s. s.n ≤ length mid.journal) l) (sym shut) goes.before);
}

goes-served : EpochLaws → (old : Past) (e : Event) (answer : Reply) (new : Past)
    (fault : Option ℕ) → ShutBefore old → Serves fault old e answer new → Goes old new
goes-served laws old e answer new (Some first) before h =
    subst (Goes old) (sym h.after) (goes-refused laws old e before)
goes-served laws old e answer new None before h = by_room (has_room old.journal e) h
  where
    by_room : (b : Bool) → MatchBool b (Accepts old e answer new ⊎ FailsFirst old e answer new)
        (Refuses old e Ended answer new) → Goes old new
    by_room true (inl accepts) = subst (Goes old) (sym accepts.after) (goes-kept laws old e before)
    by_room true (inr fails) =
        goes-broken old (refused old e) new (ap (λ p. p.journal) fails.after)
        (ap (λ p. p.shut) fails.after) (goes-refused laws old e before)
    by_room false refuses =
        subst (Goes old) (sym refuses.after) (goes-refused laws old e before)

pub step-goes : EpochLaws → (old : Past) (e : Event) (outcome : ReplyOrMemory) (new : Past)
    → ShutBefore old → Step old e outcome new → Goes old new
step-goes laws old e (Ok answer) new before h =
    goes-served laws old e answer new old.first_fault before h
step-goes laws old e (Err want) new before h =
    subst (Goes old) (sym h) (goes-quieted old e before)

-- ---- a log

pub log-goes : EpochLaws → (old : Past) (log : List LogEntry) → ShutBefore old
    → IsSessionLog old log
    → Goes old (left_by old log)
log-goes laws old [] before legal = goes-same old before
log-goes laws old (act ∷ log) before legal =
    let first = step-goes laws old act.event act.outcome act.left before legal.0 in
    let rest = log-goes laws act.left log first.before legal.1 in
    record {
      grows =
          grows-then (state_of old) (state_of act.left) (state_of (left_by act.left log))
          first.grows rest.grows;
      before = rest.before;
    }

-- a session with more acts has grown from the one with fewer
more-goes : EpochLaws → (old : Past) (log more : List LogEntry) → ShutBefore old
    → IsSessionLog old (log ++ more)
    → GrowsInto (state_of (left_by old log)) (state_of (left_by old (log ++ more)))
more-goes laws old [] more before legal = (log-goes laws old more before legal).grows
more-goes laws old (act ∷ log) more before legal =
    let first = step-goes laws old act.event act.outcome act.left before legal.0 in
    more-goes laws act.left log more first.before legal.1

pub prefix-goes : EpochLaws → (old : Past) (log longer : List LogEntry) → ShutBefore old
    → IsSessionLog old longer → IsPrefix log longer
    → GrowsInto (state_of (left_by old log)) (state_of (left_by old longer))
prefix-goes laws old log longer before legal p =
    subst (λ l. GrowsInto (state_of (left_by old log)) (state_of (left_by old l))) p.1
    (more-goes laws old log p.0 before (subst (IsSessionLog old) (sym p.1) legal))
