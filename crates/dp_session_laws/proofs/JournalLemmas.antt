-- The journal has the events of a log that are kept.
use Rattle.std.proofs.Common.{◌≡◌, ◌⊎◌, ℕ, Bool, true, false, if◌then◌else◌, List, [], ◌∷◌, ◌++◌}
use Rattle.std.proofs.Common.{Option, None, Some, Ok, Err, refl, sym, ap, subst, ◌∙◌, inl, inr}
use Rattle.std.proofs.Common.{append-nil, append_assoc}
use Rattle.std.specs.Prelude.{MatchBool}
use Rattle.dp_io.specs.Faults.{Rose}
use Rattle.dp_hall.specs.Logs.{left_by}
use Rattle.dp_hall.specs.Names.{IsIn}
use Rattle.dp_epochs.specs.declared.effect.Effect.{Effect}
use Rattle.dp_epochs.specs.declared.effect.Effect.TheVariants.{Nothing}
use Rattle.dp_epochs.specs.declared.event.Event.{Event}
use Rattle.dp_epochs.specs.declared.event.Event.TheVariants as event
use Rattle.dp_epochs.specs.declared.event.Reply.{Reply}
use Rattle.dp_epochs.specs.declared.event.Reply.TheVariants as reply
use Rattle.dp_epochs.specs.Rows.{has_room}
use Rattle.dp_epochs.specs.State.{State, acted}
use Rattle.dp_epochs.specs.Effects.{EventsHaveEffects, IsEffect, IsStill, answer_of}
use Rattle.dp_epochs.specs.Past.{Past, Step, Serves, Accepts, FailsFirst, Refuses, quieted}
use Rattle.dp_epochs.specs.Past.{state_of}
use Rattle.dp_session_laws.specs.Logs.{ReplyOrMemory, LogEntry, IsSessionLog}
use Rattle.dp_session_laws.specs.Journals.{is_kept, kept_events, HasBroken}

still-kept : (s : State) (e : Event) (answer : Reply) → IsStill s e answer
    → is_kept (Ok answer) ≡ true
still-kept s e reply.Ignored still = refl
still-kept s e reply.NameRefused still = refl
still-kept s e reply.Full still = refl
still-kept s e _ still = absurd still

-- the own answer to an event is none of those
effect-kept : (s : State) (e : Event) (effect : Effect) → IsEffect s e effect
    → is_kept (Ok (answer_of s effect)) ≡ true
effect-kept s e (Nothing answer) cause = still-kept s e answer cause
effect-kept s e _ cause = refl

pub own-kept : EventsHaveEffects → (s : State) (e : Event) → is_kept (Ok (acted s e).reply) ≡ true
own-kept effects s e =
    let h = effects s e in
    ap (λ a. is_kept (Ok a.reply)) h.made ∙ effect-kept s e h.effect h.cause

-- what an act adds to the journal
abbrev added : ReplyOrMemory → Event → List Event
added outcome e = if is_kept outcome then e ∷ [] else []

refused-adds : (old : Past) (e : Event) (refusal answer : Reply) (new : Past)
    → is_kept (Ok refusal) ≡ false → Refuses old e refusal answer new
    → new.journal ≡ old.journal ++ added (Ok answer) e
refused-adds old e refusal answer new out h =
    ap (λ (p : Past). p.journal) h.after
    ∙ sym (append-nil old.journal)
    ∙ ap (λ b. old.journal ++ (if b then e ∷ [] else []))
    (sym (ap (λ (r : Reply). is_kept (Ok r)) h.reply ∙ out))

served-adds : EventsHaveEffects → (old : Past) (e : Event) (answer : Reply) (new : Past)
    (fault : Option ℕ) → Serves fault old e answer new
    → new.journal ≡ old.journal ++ added (Ok answer) e
served-adds effects old e answer new (Some first) h =
    refused-adds old e (reply.StoreFault first) answer new refl h
served-adds effects old e answer new None h = by_room (has_room old.journal e) h
  where
    by_room : (b : Bool) → MatchBool b (Accepts old e answer new ⊎ FailsFirst old e answer new)
        (Refuses old e reply.Ended answer new)
        → new.journal ≡ old.journal ++ added (Ok answer) e
    by_room true (inl accepts) =
        ap (λ (p : Past). p.journal) accepts.after
        ∙ ap (λ b. old.journal ++ (if b then e ∷ [] else []))
        (sym (ap (λ (r : Reply). is_kept (Ok r)) accepts.reply
        ∙ own-kept effects (state_of old) e))
    by_room true (inr fails) =
        ap (λ (p : Past). p.journal) fails.after
        ∙ sym (append-nil old.journal)
        ∙ ap (λ b. old.journal ++ (if b then e ∷ [] else []))
        (sym (ap (λ (r : Reply). is_kept (Ok r)) fails.reply))
    by_room false refuses = refused-adds old e reply.Ended answer new refl refuses

quiet-adds : (old : Past) (e : Event) → (quieted old e).journal ≡ old.journal
quiet-adds old (event.Open name registered) = refl
quiet-adds old (event.Say conn m) = refl
quiet-adds old (event.Close conn) = refl

step-adds : EventsHaveEffects → (old : Past) (e : Event) (outcome : ReplyOrMemory) (new : Past)
    → Step old e outcome new → new.journal ≡ old.journal ++ added outcome e
step-adds effects old e (Ok answer) new h =
    served-adds effects old e answer new old.first_fault h
step-adds effects old e (Err error) new h =
    ap (λ (p : Past). p.journal) h ∙ quiet-adds old e ∙ sym (append-nil old.journal)

-- one act and then the others
first-kept : (b : Bool) (e : Event) (more : List Event)
    → (if b then e ∷ [] else []) ++ more ≡ (if b then e ∷ more else more)
first-kept true e more = refl
first-kept false e more = refl

pub log-adds : EventsHaveEffects → (old : Past) (log : List LogEntry) → IsSessionLog old log
    → (left_by old log).journal ≡ old.journal ++ kept_events log
log-adds effects old [] legal = sym (append-nil old.journal)
log-adds effects old (act ∷ log) legal =
    log-adds effects act.left log legal.1
    ∙ ap (λ l. l ++ kept_events log)
    (step-adds effects old act.event act.outcome act.left legal.0)
    ∙ append_assoc old.journal (added act.outcome act.event) (kept_events log)
    ∙ ap (λ l. old.journal ++ l)
    (first-kept (is_kept act.outcome) act.event (kept_events log))

-- ---- Ended

step-ended : EventsHaveEffects → (old : Past) (e : Event) (answer : Reply) (new : Past)
    (fault : Option ℕ) → answer ≡ reply.Ended → Serves fault old e answer new
    → has_room old.journal e ≡ false
step-ended effects old e answer new (Some first) is h =
    let wrong : reply.StoreFault first ≡ reply.Ended = sym h.reply ∙ is in cc
step-ended effects old e answer new None is h = by_room (has_room old.journal e) refl h
  where
    by_room : (b : Bool) → has_room old.journal e ≡ b
        → MatchBool b (Accepts old e answer new ⊎ FailsFirst old e answer new)
        (Refuses old e reply.Ended answer new) → has_room old.journal e ≡ false
    by_room true room (inl accepts) =
        let own : (acted (state_of old) e).reply ≡ reply.Ended = sym accepts.reply ∙ is in
        let wrong : true ≡ false =
        sym (own-kept effects (state_of old) e) ∙ ap (λ (r : Reply). is_kept (Ok r)) own in
        cc
    by_room true room (inr fails) =
        let wrong : reply.StoreFault fails.count ≡ reply.Ended = sym fails.reply ∙ is in cc
    by_room false room refuses = room

-- the step of an act of a log
step-at : (old : Past) (prefix : List LogEntry) (act : LogEntry) (back : List LogEntry)
    → IsSessionLog old (prefix ++ act ∷ back)
    → Step (left_by old prefix) act.event act.outcome act.left
step-at old [] act back legal = legal.0
step-at old (first ∷ prefix) act back legal = step-at first.left prefix act back legal.1

outcome-ended : EventsHaveEffects → (old : Past) (e : Event) (outcome : ReplyOrMemory) (new : Past)
    → outcome ≡ Ok reply.Ended → Step old e outcome new → has_room old.journal e ≡ false
outcome-ended effects old e (Ok answer) new is h =
    step-ended effects old e answer new old.first_fault (cc (is)) h
outcome-ended effects old e (Err error) new is h = cc (is)

pub ended-full : EventsHaveEffects
    → (old : Past) (prefix : List LogEntry) (act : LogEntry) (back : List LogEntry)
    → IsSessionLog old (prefix ++ act ∷ back) → act.outcome ≡ Ok reply.Ended
    → has_room (left_by old prefix).journal act.event ≡ false
ended-full effects old prefix act back legal is =
    outcome-ended effects (left_by old prefix) act.event act.outcome act.left is
    (step-at old prefix act back legal)

-- ---- StoreFault

-- after a fault the session stays so
quiet-same : (old : Past) (e : Event)
    → ((quieted old e).first_fault ≡ old.first_fault) × ((quieted old e).count ≡ old.count)
quiet-same old (event.Open name registered) = (refl, refl)
quiet-same old (event.Say conn m) = (refl, refl)
quiet-same old (event.Close conn) = (refl, refl)

pub broken-step : (old : Past) (e : Event) (outcome : ReplyOrMemory) (new : Past) (k : ℕ)
    → old.first_fault ≡ Some k → Step old e outcome new
    → (new.first_fault ≡ Some k) × (new.count ≡ old.count) × (new.journal ≡ old.journal)
broken-step old e (Ok answer) new k broken h =
    let refuses : Serves (Some k) old e answer new =
    subst (λ b. Serves b old e answer new) broken h in (
      ap (λ (p : Past). p.first_fault) refuses.after ∙ broken,
      ap (λ (p : Past). p.count) refuses.after,
      ap (λ (p : Past). p.journal) refuses.after,
    )
broken-step old e (Err error) new k broken h = (
  ap (λ (p : Past). p.first_fault) h ∙ (quiet-same old e).0 ∙ broken,
  ap (λ (p : Past). p.count) h ∙ (quiet-same old e).1,
  ap (λ (p : Past). p.journal) h ∙ quiet-adds old e,
)

pub broken-log : (old : Past) (log : List LogEntry) (k : ℕ) → old.first_fault ≡ Some k
    → IsSessionLog old log
    → ((left_by old log).first_fault ≡ Some k) × ((left_by old log).count ≡ old.count)
    × ((left_by old log).journal ≡ old.journal)
broken-log old [] k broken legal = (broken, refl, refl)
broken-log old (act ∷ log) k broken legal =
    let step = broken-step old act.event act.outcome act.left k broken legal.0 in
    let rest = broken-log act.left log k step.0 legal.1 in
    (rest.0, rest.1 ∙ step.1, rest.2 ∙ step.2)

-- what a step of a session leaves in which no put has failed: the same, or a first fault
pub data Sound (old : Past) (outcome : ReplyOrMemory) (new : Past) : Type 0 where
  Same : new.first_fault ≡ None → new.count ≡ old.count
      → ((k : ℕ) → outcome ≡ Ok (reply.StoreFault k) → ⊥) → Sound old outcome new
  First : (k : ℕ) → new.first_fault ≡ Some k → Rose old.count new.count → Sound old outcome new

sound-served : EventsHaveEffects → (old : Past) (e : Event) (answer : Reply) (new : Past)
    → old.first_fault ≡ None → Serves None old e answer new → Sound old (Ok answer) new
sound-served effects old e answer new none h = by_room (has_room old.journal e) h
  where
    by_room : (b : Bool) → MatchBool b (Accepts old e answer new ⊎ FailsFirst old e answer new)
        (Refuses old e reply.Ended answer new) → Sound old (Ok answer) new
    by_room true (inl accepts) =
        Same (ap (λ (p : Past). p.first_fault) accepts.after ∙ none)
        (ap (λ (p : Past). p.count) accepts.after)
        (λ k is.
        let said : answer ≡ reply.StoreFault k = cc (is) in
        let own : (acted (state_of old) e).reply ≡ reply.StoreFault k =
        sym accepts.reply ∙ said in
        let wrong : true ≡ false =
        sym (own-kept effects (state_of old) e) ∙ ap (λ (r : Reply). is_kept (Ok r)) own in
        cc)
    by_room true (inr fails) =
        First fails.count (ap (λ (p : Past). p.first_fault) fails.after)
        (subst (λ n. Rose old.count n) (sym (ap (λ (p : Past). p.count) fails.after)) fails.rose)
    by_room false refuses =
        Same (ap (λ (p : Past). p.first_fault) refuses.after ∙ none)
        (ap (λ (p : Past). p.count) refuses.after)
        (λ k is.
        let said : answer ≡ reply.StoreFault k = cc (is) in
        let wrong : reply.Ended ≡ reply.StoreFault k = sym refuses.reply ∙ said in
        cc)

pub sound-step : EventsHaveEffects → (old : Past) (e : Event) (outcome : ReplyOrMemory) (new : Past)
    → old.first_fault ≡ None → Step old e outcome new → Sound old outcome new
sound-step effects old e (Ok answer) new none h =
    sound-served effects old e answer new none
    (subst (λ b. Serves b old e answer new) none h)
sound-step effects old e (Err error) new none h =
    Same (ap (λ (p : Past). p.first_fault) h ∙ (quiet-same old e).0 ∙ none)
    (ap (λ (p : Past). p.count) h ∙ (quiet-same old e).1)
    (λ k is. cc (is))

after-first : EventsHaveEffects
    → (old : Past) (first : LogEntry) (log : List LogEntry) (act : LogEntry) (k : ℕ)
    → Sound old first.outcome first.left → IsSessionLog first.left log
    → IsIn act (first ∷ log) → act.outcome ≡ Ok (reply.StoreFault k)
    → (first.left.first_fault ≡ None → IsIn act log → HasBroken first.left (left_by first.left log))
    → HasBroken old (left_by first.left log)
after-first effects old first log act k (Same none count other) legal (inl same) is more =
    absurd (other k (ap (λ (a : LogEntry). a.outcome) (sym same) ∙ is))
after-first effects old first log act k (Same none count other) legal (inr later) is more =
    let h = more none later in
    record {
      count = h.count;
      fault = h.fault;
      rose = subst (λ n. Rose n (left_by first.left log).count) count h.rose;
    }
after-first effects old first log act k (First j fault rose) legal within is more =
    let rest = broken-log first.left log j fault legal in
    record {
      count = j;
      fault = rest.0;
      rose = subst (λ n. Rose old.count n) (sym rest.1) rose;
    }

pub log-broke : EventsHaveEffects → (old : Past) (log : List LogEntry) (act : LogEntry) (k : ℕ)
    → old.first_fault ≡ None → IsSessionLog old log → IsIn act log
    → act.outcome ≡ Ok (reply.StoreFault k) → HasBroken old (left_by old log)
log-broke effects old [] act k none legal within is = absurd within
log-broke effects old (first ∷ log) act k none legal within is =
    after-first effects old first log act k
    (sound-step effects old first.event first.outcome first.left none legal.0) legal.1 within is
    (λ none later. log-broke effects first.left log act k none legal.1 later is)
