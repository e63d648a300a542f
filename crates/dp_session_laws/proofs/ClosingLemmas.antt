-- Which closings of a log were refused, and why.
use Rattle.std.proofs.Common.{◌≡◌, ◌⊎◌, ℕ, true, List, [], ◌∷◌, ◌++◌, length, take, None, Some, Ok}
use Rattle.std.proofs.Common.{refl, sym, ap, subst, ◌∙◌, inl, inr, append-nil, append_assoc}
use Rattle.std.proofs.Math.Seq.{take-append_seam}
use Rattle.dp_io.specs.Faults.{Rose}
use Rattle.dp_hall.specs.Logs.{left_by}
use Rattle.dp_hall.specs.Names.{IsIn}
use Rattle.dp_epochs.specs.declared.event.Event.{Event}
use Rattle.dp_epochs.specs.declared.event.Event.TheVariants as event
use Rattle.dp_epochs.specs.declared.event.Reply.{Reply}
use Rattle.dp_epochs.specs.declared.event.Reply.TheVariants as reply
use Rattle.dp_epochs.specs.declared.event.ShutAt.{ShutAt}
use Rattle.dp_epochs.specs.Rows.{has_room}
use Rattle.dp_epochs.specs.Effects.{EventsHaveEffects}
use Rattle.dp_epochs.specs.Past.{Past, quieted, shut_with, state_of, answer_to}
use Rattle.dp_session_laws.specs.Logs.{ReplyOrMemory, LogEntry, IsSessionLog}
use Rattle.dp_session_laws.specs.Journals.{is_kept, kept_events}
use Rattle.dp_session_laws.specs.Closings.{shut_by_outcome, refused_closes, IsShutFor}
use Rattle.dp_session_laws.proofs.JournalLemmas.{own-kept, log-adds, broken-step, broken-log, Sound}
use Rattle.dp_session_laws.proofs.JournalLemmas.{Same, First, sound-step}
use Rattle.dp_session_laws.proofs.Steps.{Came, WasKept, WasEnded, WasFault, RanOut, step-came}
use Rattle.dp_session_laws.proofs.Steps.{HasRefused}

-- ---- which

shut_with-append : (n : ℕ) (shut : List ShutAt) (e : Event)
    → shut_with n shut e ≡ shut ++ shut_with n [] e
shut_with-append n shut (event.Open name registered) = sym (append-nil shut)
shut_with-append n shut (event.Say conn m) = sym (append-nil shut)
shut_with-append n shut (event.Close conn) = refl

reply-shuts : (n : ℕ) (e : Event) (answer : Reply) → is_kept (Ok answer) ≡ true
    → shut_by_outcome n e (Ok answer) ≡ []
reply-shuts n e reply.Ended is = cc
reply-shuts n e (reply.StoreFault count) is = cc
reply-shuts n e answer is = refl

own-shuts : EventsHaveEffects → (n : ℕ) (old : Past) (e : Event)
    → shut_by_outcome n e (Ok (answer_to old e)) ≡ []
own-shuts effects n old e =
    reply-shuts n e (answer_to old e) (own-kept effects (state_of old) e)

quieted-shut : (old : Past) (e : Event) → (quieted old e).shut ≡ old.shut
quieted-shut old (event.Open name registered) = refl
quieted-shut old (event.Say conn m) = refl
quieted-shut old (event.Close conn) = refl

-- if an act that was not refused leaves the closings as they were
shuts-stay : (old : Past) (e : Event) (outcome : ReplyOrMemory) (new : Past) → new.shut ≡ old.shut
    → shut_by_outcome (length old.journal) e outcome ≡ []
    → new.shut ≡ old.shut ++ shut_by_outcome (length old.journal) e outcome
shuts-stay old e outcome new same none =
    same ∙ sym (append-nil old.shut) ∙ ap (λ l. old.shut ++ l) (sym none)

-- if an act was refused
shuts-grow : (old : Past) (e : Event) (outcome refusal : ReplyOrMemory) (new : Past)
    → outcome ≡ refusal → HasRefused old e new
    → shut_by_outcome (length old.journal) e refusal ≡ shut_with (length old.journal) [] e
    → new.shut ≡ old.shut ++ shut_by_outcome (length old.journal) e outcome
shuts-grow old e outcome refusal new is h one =
    h.shut
    ∙ shut_with-append (length old.journal) old.shut e
    ∙ ap (λ l. old.shut ++ l)
    (sym (ap (shut_by_outcome (length old.journal) e) is ∙ one))

came-shuts : EventsHaveEffects → (old : Past) (e : Event) (outcome : ReplyOrMemory) (new : Past)
    → Came old e outcome new
    → new.shut ≡ old.shut ++ shut_by_outcome (length old.journal) e outcome
came-shuts effects old e outcome new (WasKept is after) =
    shuts-stay old e outcome new (ap (λ (p : Past). p.shut) after)
    (ap (shut_by_outcome (length old.journal) e) is
    ∙ own-shuts effects (length old.journal) old e)
came-shuts effects old e outcome new (WasEnded is full h) =
    shuts-grow old e outcome (Ok reply.Ended) new is h refl
came-shuts effects old e outcome new (WasFault count is h) =
    shuts-grow old e outcome (Ok (reply.StoreFault count)) new is h refl
came-shuts effects old e outcome new (RanOut error is after) =
    shuts-stay old e outcome new (ap (λ (p : Past). p.shut) after ∙ quieted-shut old e)
    (ap (shut_by_outcome (length old.journal) e) is)

pub log-shuts : EventsHaveEffects → (old : Past) (log : List LogEntry) → IsSessionLog old log
    → (left_by old log).shut ≡ old.shut ++ refused_closes old log
log-shuts effects old [] legal = sym (append-nil old.shut)
log-shuts effects old (act ∷ log) legal =
    log-shuts effects act.left log legal.1
    ∙ ap (λ l. l ++ refused_closes act.left log)
    (came-shuts effects old act.event act.outcome act.left
    (step-came old act.event act.outcome act.left legal.0))
    ∙ append_assoc old.shut (shut_by_outcome (length old.journal) act.event act.outcome)
    (refused_closes act.left log)

-- ---- why

in-either : {X : Type 0} (x : X) (xs ys : List X) → IsIn x (xs ++ ys) → IsIn x xs ⊎ IsIn x ys
in-either x [] ys within = inr within
in-either x (y ∷ xs) ys (inl same) = inl (inl same)
in-either x (y ∷ xs) ys (inr later) = deeper (in-either x xs ys later)
  where
    deeper : IsIn x xs ⊎ IsIn x ys → IsIn x (y ∷ xs) ⊎ IsIn x ys
    deeper (inl here) = inl (inr here)
    deeper (inr there) = inr there

-- a closing that was refused is that of the event, while n were kept
event-shut : (n : ℕ) (e : Event) (s : ShutAt) → IsIn s (shut_with n [] e)
    → (e ≡ event.Close s.conn) × (s.n ≡ n)
event-shut n (event.Open name registered) s within = absurd within
event-shut n (event.Say conn m) s within = absurd within
event-shut n (event.Close conn) s (inl same) =
    (ap (λ (t : ShutAt). event.Close t.conn) (sym same), ap (λ (t : ShutAt). t.n) same)
event-shut n (event.Close conn) s (inr none) = absurd none

outcome-shut : (n : ℕ) (e : Event) (outcome : ReplyOrMemory) (s : ShutAt)
    → IsIn s (shut_by_outcome n e outcome) → (e ≡ event.Close s.conn) × (s.n ≡ n)
outcome-shut n e (Ok reply.Ended) s within = event-shut n e s within
outcome-shut n e (Ok (reply.StoreFault count)) s within = event-shut n e s within
outcome-shut n e outcome s within = absurd within

-- after a fault nothing is kept
broken-shuts : (old : Past) (log : List LogEntry) (k : ℕ) (s : ShutAt) → old.first_fault ≡ Some k
    → IsSessionLog old log → IsIn s (refused_closes old log) → s.n ≡ length old.journal
broken-shuts old [] k s broken legal within = absurd within
broken-shuts old (act ∷ log) k s broken legal within =
    let step = broken-step old act.event act.outcome act.left k broken legal.0 in
    by_place step.2 (broken-shuts act.left log k s step.0 legal.1)
    (in-either s (shut_by_outcome (length old.journal) act.event act.outcome)
    (refused_closes act.left log) within)
  where
    by_place : act.left.journal ≡ old.journal
        → (IsIn s (refused_closes act.left log) → s.n ≡ length act.left.journal)
        → IsIn s (shut_by_outcome (length old.journal) act.event act.outcome)
        ⊎ IsIn s (refused_closes act.left log) → s.n ≡ length old.journal
    by_place same more (inl first) =
        (outcome-shut (length old.journal) act.event act.outcome s first).1
    by_place same more (inr later) = more later ∙ ap length same

-- the cause of a closing that was refused if the session broke by this act
broken-cause : (old left : Past) (log : List LogEntry) (k : ℕ) (s : ShutAt)
    → left.first_fault ≡ Some k → Rose old.count left.count → IsSessionLog left log
    → s.n ≡ length left.journal → IsShutFor old (left_by left log) s
broken-cause old left log k s fault rose legal at =
    let rest = broken-log left log k fault legal in
    inl (
      record {
        count = k;
        fault = rest.0;
        rose = subst (λ n. Rose old.count n) (sym rest.1) rose;
      },
      at ∙ ap length (sym rest.2),
    )

-- the cause of the closing of the first act
first-cause : EventsHaveEffects → (old : Past) (act : LogEntry) (log : List LogEntry) (s : ShutAt)
    → IsSessionLog old (act ∷ log) → Sound old act.outcome act.left
    → Came old act.event act.outcome act.left
    → IsIn s (shut_by_outcome (length old.journal) act.event act.outcome)
    → IsShutFor old (left_by act.left log) s
first-cause effects old act log s legal sound (WasKept is after) within =
    let none : shut_by_outcome (length old.journal) act.event act.outcome ≡ [] =
    ap (shut_by_outcome (length old.journal) act.event) is
    ∙ own-shuts effects (length old.journal) old act.event in
    absurd (subst (IsIn s) none within)
first-cause effects old act log s legal sound (WasEnded is full h) within =
    let at = outcome-shut (length old.journal) act.event act.outcome s within in
    let journal : take s.n (left_by act.left log).journal ≡ old.journal =
    ap (λ n. take n (left_by act.left log).journal) at.1
    ∙ ap (take (length old.journal)) (log-adds effects old (act ∷ log) legal)
    ∙ take-append_seam old.journal (kept_events (act ∷ log)) in
    inr (ap (λ j. has_room j (event.Close s.conn)) journal
    ∙ ap (has_room old.journal) (sym at.0) ∙ full)
first-cause effects old act log s legal (Same none count other) (WasFault k is h) within =
    absurd (other k is)
first-cause effects old act log s legal (First j fault rose) (WasFault k is h) within =
    let at = outcome-shut (length old.journal) act.event act.outcome s within in
    broken-cause old act.left log j s fault rose legal.1 (at.1 ∙ ap length (sym h.journal))
first-cause effects old act log s legal sound (RanOut error is after) within =
    let none : shut_by_outcome (length old.journal) act.event act.outcome ≡ [] =
    ap (shut_by_outcome (length old.journal) act.event) is in
    absurd (subst (IsIn s) none within)

-- the cause of the closing of a later act
rest-cause : (old : Past) (act : LogEntry) (log : List LogEntry) (s : ShutAt)
    → IsSessionLog old (act ∷ log) → Sound old act.outcome act.left
    → (act.left.first_fault ≡ None → IsShutFor act.left (left_by act.left log) s)
    → IsIn s (refused_closes act.left log) → IsShutFor old (left_by act.left log) s
rest-cause old act log s legal (Same none count other) more within = from (more none)
  where
    from : IsShutFor act.left (left_by act.left log) s
        → IsShutFor old (left_by act.left log) s
    from (inl (broken, at)) =
        inl (
          record {
            count = broken.count;
            fault = broken.fault;
            rose = subst (λ n. Rose n (left_by act.left log).count) count broken.rose;
          },
          at,
        )
    from (inr full) = inr full
rest-cause old act log s legal (First j fault rose) more within =
    broken-cause old act.left log j s fault rose legal.1
    (broken-shuts act.left log j s fault legal.1 within)

pub log-cause : EventsHaveEffects → (old : Past) (log : List LogEntry) (s : ShutAt)
    → old.first_fault ≡ None → IsSessionLog old log → IsIn s (refused_closes old log)
    → IsShutFor old (left_by old log) s
log-cause effects old [] s none legal within = absurd within
log-cause effects old (act ∷ log) s none legal within =
    by_place (λ later sound. log-cause effects act.left log s sound legal.1 later)
    (in-either s (shut_by_outcome (length old.journal) act.event act.outcome)
    (refused_closes act.left log) within)
  where
    sound : Sound old act.outcome act.left
    sound = sound-step effects old act.event act.outcome act.left none legal.0

    by_place : (IsIn s (refused_closes act.left log) → act.left.first_fault ≡ None
        → IsShutFor act.left (left_by act.left log) s)
        → IsIn s (shut_by_outcome (length old.journal) act.event act.outcome)
        ⊎ IsIn s (refused_closes act.left log)
        → IsShutFor old (left_by act.left log) s
    by_place more (inl first) =
        first-cause effects old act log s legal sound
        (step-came old act.event act.outcome act.left legal.0) first
    by_place more (inr later) = rest-cause old act log s legal sound (more later) later
