-- The feed of a connection begins with an empty segment of the epoch in which it joined. A feed
-- stays one while the session grows.
use Rattle.std.proofs.Common.{◌≡◌, ◌⊎◌, ℕ, ◌+◌, ◌≤◌, Bool, true, false, List, [], ◌∷◌}
use Rattle.std.proofs.Common.{length, Option, None, Some, Ok, Err, refl, sym, ap, subst}
use Rattle.std.proofs.Common.{◌∙◌, ⊎_elim, inl, inr, arith}
use Rattle.std.specs.Prelude.{MatchBool}
use Rattle.std.specs.List.{AllByRecursion}
use Rattle.std.proofs.lemmas.Bool.{cases_eq}
use Rattle.dp_lists.proofs.Numbered.{numbered-new}
use Rattle.dp_hall.specs.Logs.{left_by}
use Rattle.dp_hall.specs.Names.{IsIn}
use Rattle.dp_epochs.specs.declared.connection.Place.{Place}
use Rattle.dp_epochs.specs.declared.connection.Ending.{Ending}
use Rattle.dp_epochs.specs.declared.connection.Ending.TheVariants as ending
use Rattle.dp_epochs.specs.declared.connection.Connection.{Connection}
use Rattle.dp_epochs.specs.declared.effect.Effect.{Effect}
use Rattle.dp_epochs.specs.declared.effect.Effect.TheVariants.{Nothing, Joined}
use Rattle.dp_epochs.specs.declared.event.Event.{Event}
use Rattle.dp_epochs.specs.declared.event.Reply.{Reply}
use Rattle.dp_epochs.specs.declared.event.Reply.TheVariants as reply
use Rattle.dp_epochs.specs.Rows.{has_room}
use Rattle.dp_epochs.specs.State.{State, epoch_of, history_of, connection_of, new_connection}
use Rattle.dp_epochs.specs.State.{acted, noted, after_event}
use Rattle.dp_epochs.specs.Effects.{made, answer_of, IsEffect, IsStill}
use Rattle.dp_epochs.specs.Past.{Past, Step, Serves, Accepts, FailsFirst, Refuses, state_of}
use Rattle.dp_epochs.specs.Laws.{ShutBefore}
use Rattle.dp_session_laws.specs.Growing.{IsAfter, EndsLater, GrowsInto}
use Rattle.dp_session_laws.specs.Feeds.{Segment, IsSegment, IsWithin, RisesFrom, IsFeed}
use Rattle.dp_session_laws.specs.Logs.{ReplyOrMemory, LogEntry, IsSessionLog, HasOpened}
use Rattle.dp_session_laws.proofs.Growth.{EpochLaws, step-goes, log-goes, prefix-then}
use Rattle.dp_session_laws.proofs.Growth.{prefix-length, live-history}

-- ---- a feed stays one

-- a segment of a state does not go past a Leave after its live history
within-after : (s : State) (place : Place) (segment : Segment) → IsSegment s segment
    → IsAfter s place → IsWithin (ending.Left place) segment
within-after s place segment is (inl later) = inl (omega (arith, is.0))
within-after s place segment is (inr (same, after)) =
    ⊎_elim
    (λ (e : segment.epoch ≡ epoch_of s).
    let short : length segment.entries ≤ length s.live =
    subst (λ l. length segment.entries ≤ length l) (live-history s)
    (subst (λ k. length segment.entries ≤ length (history_of s k)) e
    (prefix-length segment.entries (history_of s segment.epoch) is.1)) in
    inr (e ∙ sym same, omega (arith, short, after)))
    (λ (ne : segment.epoch ≡ epoch_of s → ⊥). inl (omega (arith, is.0, same)))
    (cases_eq segment.epoch (epoch_of s))

within-later : (s t : State) (old new : Ending) (segment : Segment) → IsSegment s segment
    → EndsLater s t old new → IsWithin old segment → IsWithin new segment
within-later s t ending.Running ending.Running segment is later within = tt
within-later s t ending.Running (ending.Left place) segment is later within =
    within-after s place segment is later.0
within-later s t ending.Running ending.Shut segment is later within = tt
within-later s t (ending.Left place) new segment is later within =
    subst (λ e. IsWithin e segment) (sym later) within
within-later s t ending.Shut new segment is later within =
    subst (λ e. IsWithin e segment) (sym later) tt

segment-later : (s t : State) (segment : Segment) → GrowsInto s t → IsSegment s segment
    → IsSegment t segment
segment-later s t segment grows is = (
  omega (arith, is.0, grows.epochs),
  prefix-then segment.entries (history_of s segment.epoch) (history_of t segment.epoch) is.1
      (grows.histories segment.epoch),
)

segments-later : (s t : State) (segments : List Segment) → GrowsInto s t
    → AllByRecursion (IsSegment s) segments → AllByRecursion (IsSegment t) segments
segments-later s t [] grows all = tt
segments-later s t (segment ∷ segments) grows all =
    (segment-later s t segment grows all.0, segments-later s t segments grows all.1)

all-within-later : (s t : State) (old new : Ending) (segments : List Segment)
    → EndsLater s t old new → AllByRecursion (IsSegment s) segments
    → AllByRecursion (IsWithin old) segments → AllByRecursion (IsWithin new) segments
all-within-later s t old new [] later all within = tt
all-within-later s t old new (segment ∷ segments) later all within = (
  within-later s t old new segment all.0 later within.0,
  all-within-later s t old new segments later all.1 within.1,
)

pub feed-goes-on : (s t : State) (conn : ℕ) (segments : List Segment) → GrowsInto s t
    → IsFeed s conn segments → IsFeed t conn segments
feed-goes-on s t conn segments grows feed =
    let c = grows.connections conn feed.connection feed.is in
    record {
      connection = c.0;
      is = c.1;
      rises =
          subst (λ (place : Place). RisesFrom place.epoch segments) (sym c.2.joined) feed.rises;
      each = segments-later s t segments grows feed.each;
      within =
          all-within-later s t feed.connection.ending c.0.ending segments c.2.ending feed.each
          feed.within;
    }

-- ---- an Open

-- The connection was given out, and its first feed is the empty segment. Its Leave, if it has one,
-- is in an epoch of the session.
pub record Begins (s : State) (conn epoch : ℕ) : Type 0 where
  pub connection : Connection
  pub is : connection_of s conn ≡ Some connection
  pub feed : IsFeed s conn (record { epoch = epoch; entries = [] } ∷ [])
  pub inside : (place : Place) → connection.ending ≡ ending.Left place → place.epoch ≤ epoch_of s

inside-later : (s t : State) (old new : Ending) → EndsLater s t old new → epoch_of s ≤ epoch_of t
    → ((place : Place) → old ≡ ending.Left place → place.epoch ≤ epoch_of s)
    → (place : Place) → new ≡ ending.Left place → place.epoch ≤ epoch_of t
inside-later s t ending.Running ending.Running later more inside place is = cc
inside-later s t ending.Running (ending.Left other) later more inside place is =
    let same : other ≡ place = cc in subst (λ (p : Place). p.epoch ≤ epoch_of t) same later.1
inside-later s t ending.Running ending.Shut later more inside place is = cc
inside-later s t (ending.Left other) new later more inside place is =
    let e : ending.Left other ≡ ending.Left place = sym later ∙ is in
    omega (arith, inside place e, more)
inside-later s t ending.Shut new later more inside place is =
    let e : ending.Shut ≡ ending.Left place = sym later ∙ is in cc

begins-later : (s t : State) (conn epoch : ℕ) → GrowsInto s t → Begins s conn epoch
    → Begins t conn epoch
begins-later s t conn epoch grows b =
    let c = grows.connections conn b.connection b.is in
    record {
      connection = c.0;
      is = c.1;
      feed = feed-goes-on s t conn (record { epoch = epoch; entries = [] } ∷ []) grows b.feed;
      inside =
          inside-later s t b.connection.ending c.0.ending c.2.ending grows.epochs b.inside;
    }

-- if an event was answered by a connection, that was added
effect-opens : (s : State) (e : Event) (effect : Effect) → IsEffect s e effect
    → (conn user epoch at : ℕ) → answer_of s effect ≡ reply.Opened conn user epoch at
    → Begins (made s e effect).state conn epoch
effect-opens s e (Nothing answer) cause conn user epoch at is =
    absurd (subst (IsStill s e) is cause)
effect-opens s e (Joined id next) cause conn user epoch at is =
    let number : length s.connections + 1 ≡ conn = cc in
    let of_epoch : epoch_of s ≡ epoch = cc in
    let t = (made s e (Joined id next)).state in
    let there : connection_of t conn ≡ Some (new_connection s id) =
    subst (λ n. connection_of t n ≡ Some (new_connection s id)) number
    (numbered-new s.connections (new_connection s id)) in
    record {
      connection = new_connection s id;
      is = there;
      feed = record {
        connection = new_connection s id;
        is = there;
        rises = (sym of_epoch, tt);
        each = ((omega (arith, of_epoch), (history_of t epoch, refl)), tt);
        within = (tt, tt);
      };
      inside = λ place e. cc;
    }
effect-opens s e effect cause conn user epoch at is = cc

-- the state after the event with this answer
event-opens : EpochLaws → (s : State) (e : Event) (conn user epoch at : ℕ)
    → (acted s e).reply ≡ reply.Opened conn user epoch at → Begins (after_event s e) conn epoch
event-opens laws s e conn user epoch at is =
    let h = laws.effects s e in
    let answer : answer_of s h.effect ≡ reply.Opened conn user epoch at =
    sym (ap (λ a. a.reply) h.made) ∙ is in
    subst (λ a. Begins (noted s a) conn epoch) (sym h.made)
    (noted-begins h.effect (effect-opens s e h.effect h.cause conn user epoch at answer))
  where
    noted-begins : (effect : Effect) → Begins (made s e effect).state conn epoch
        → Begins (noted s (made s e effect)) conn epoch
    noted-begins effect b = record {
      connection = b.connection;
      is = b.is;
      feed = record {
        connection = b.feed.connection;
        is = b.feed.is;
        rises = b.feed.rises;
        each = b.feed.each;
        within = b.feed.within;
      };
      inside = b.inside;
    }

step-opens : EpochLaws → (old : Past) (e : Event) (answer : Reply) (new : Past)
    (conn user epoch at : ℕ) (fault : Option ℕ) → ShutBefore old
    → answer ≡ reply.Opened conn user epoch at → Serves fault old e answer new
    → Begins (state_of new) conn epoch
step-opens laws old e answer new conn user epoch at (Some first) before is h =
    let no : reply.StoreFault first ≡ reply.Opened conn user epoch at = sym h.reply ∙ is in cc
step-opens laws old e answer new conn user epoch at None before is h =
    by_room (has_room old.journal e) h
  where
    by_room : (b : Bool) → MatchBool b (Accepts old e answer new ⊎ FailsFirst old e answer new)
        (Refuses old e reply.Ended answer new) → Begins (state_of new) conn epoch
    by_room true (inl accepts) =
        subst (λ (p : Past). Begins (state_of p) conn epoch) (sym accepts.after)
        (subst (λ s. Begins s conn epoch) (sym (laws.kept_leads old e before))
        (event-opens laws (state_of old) e conn user epoch at (sym accepts.reply ∙ is)))
    by_room true (inr fails) =
        let no : reply.StoreFault fails.count ≡ reply.Opened conn user epoch at =
        sym fails.reply ∙ is in cc
    by_room false refuses =
        let no : reply.Ended ≡ reply.Opened conn user epoch at = sym refuses.reply ∙ is in cc

act-opens : EpochLaws → (old : Past) (e : Event) (outcome : ReplyOrMemory) (new : Past)
    (conn user epoch at : ℕ) → ShutBefore old → outcome ≡ Ok (reply.Opened conn user epoch at)
    → Step old e outcome new → Begins (state_of new) conn epoch
act-opens laws old e (Ok answer) new conn user epoch at before is h =
    step-opens laws old e answer new conn user epoch at old.first_fault before (cc (is)) h
act-opens laws old e (Err want) new conn user epoch at before is h = cc (is)

-- after a log in which the connection was opened
opens-in : EpochLaws → (old : Past) (log : List LogEntry) (act : LogEntry) (conn user epoch at : ℕ)
    → ShutBefore old → IsSessionLog old log → IsIn act log
    → act.outcome ≡ Ok (reply.Opened conn user epoch at)
    → Begins (state_of (left_by old log)) conn epoch
opens-in laws old [] act conn user epoch at before legal within is = absurd within
opens-in laws old (first ∷ log) act conn user epoch at before legal (inl same) is =
    let step = step-goes laws old first.event first.outcome first.left before legal.0 in
    let answer : first.outcome ≡ Ok (reply.Opened conn user epoch at) =
    ap (λ (a : LogEntry). a.outcome) (sym same) ∙ is in
    begins-later (state_of first.left) (state_of (left_by first.left log)) conn epoch
    (log-goes laws first.left log step.before legal.1).grows
    (act-opens laws old first.event first.outcome first.left conn user epoch at before answer
    legal.0)
opens-in laws old (first ∷ log) act conn user epoch at before legal (inr later) is =
    let step = step-goes laws old first.event first.outcome first.left before legal.0 in
    opens-in laws first.left log act conn user epoch at step.before legal.1 later is

pub begins-in : EpochLaws → (old : Past) (log : List LogEntry) (conn user epoch at : ℕ)
    → ShutBefore old → IsSessionLog old log → HasOpened log conn user epoch at
    → Begins (state_of (left_by old log)) conn epoch
begins-in laws old log conn user epoch at before legal h =
    opens-in laws old log h.act conn user epoch at before legal h.within h.answer
