-- What an act on the hall tells of the step.
use Rattle.std.proofs.Common.{◌≡◌, ◌⊎◌, ℕ, Bool, true, false, List, [], ◌∷◌, ◌++◌, Option, None}
use Rattle.std.proofs.Common.{Some}
use Rattle.std.proofs.Common.{Result, Ok, Err, refl, sym, ap, subst, ◌∙◌, inl, inr}
use Rattle.std.specs.Prelude.{MatchBool}
use Rattle.std.proofs.lemmas.Bool.{cond_both}
use Rattle.dp_hall.specs.Logs.{IsLegal, left_by}
use Rattle.dp_hall.specs.Calls.{Acts, IsSound}
use Rattle.dp_epochs.specs.declared.event.Event.{Event}
use Rattle.dp_epochs.specs.declared.event.Event.TheVariants as event
use Rattle.dp_epochs.specs.declared.event.Reply.{Reply}
use Rattle.dp_epochs.specs.declared.event.Reply.TheVariants as reply
use Rattle.dp_epochs.specs.Rows.{has_room}
use Rattle.dp_epochs.specs.State.{State, acted, opened_as, stays, is_name, free_id}
use Rattle.dp_epochs.specs.Past.{Past, Step, Serves, Accepts, FailsFirst, Refuses, state_of}
use Rattle.std.specs.Io.KnownBytes.{Keeps}
use Rattle.dp_split.specs.Stream.{Stream}
use Rattle.dp_hall.specs.Laws.{Continues}
use Rattle.dp_link.specs.declared.ends.Greeting.{Greeting}
use Rattle.dp_link.specs.declared.ends.GreetEnd.{GreetEnd}
use Rattle.dp_link.specs.declared.ends.GreetEnd.TheVariants as greet
use Rattle.dp_link.specs.Acts.{SeatView, ActsOnce, last_outcome}
use Rattle.dp_session_laws.specs.Logs.{ReplyOrMemory, LogEntry}
use Rattle.dp_link.specs.Answers.{OpensWith, opened_as as reply_of}
use Rattle.dp_link.specs.Hello.{Answers, AnswersBy, Welcomes, ReadsName, NamesBy, RefusesBy}
use Rattle.dp_link.specs.Hello.{FaultMatchesHello, FaultMatchesRefusal}
use Rattle.std.specs.declared.alloc.AllocError.{AllocError}
use Rattle.dp_link.specs.Hello.{Greets, GreetsBy}

-- the last act of a legal log is a step
last-step : (m : Past) (log : List LogEntry) (act : LogEntry) → IsLegal Step m (log ++ act ∷ [])
    → Step (left_by m log) act.event act.outcome act.left
last-step m [] act legal = legal.0
last-step m (first ∷ log) act legal = last-step first.left log act legal.1

-- an act is a step of the session
pub acted-step : (v w : SeatView) (e : Event) (outcome : ReplyOrMemory) → Acts v e outcome w
    → IsSound Step w → (old new : Past) × Step old e outcome new
acted-step v w e outcome acts sound =
    let legal = subst (IsLegal Step sound.legal.0) acts.seen sound.legal.2 in
    let step = last-step sound.legal.0 (v.seen ++ acts.between) acts.entry legal in (
      left_by sound.legal.0 (v.seen ++ acts.between),
      acts.entry.left,
      subst (λ (o : ReplyOrMemory). Step (left_by sound.legal.0 (v.seen ++ acts.between)) e o
          acts.entry.left) acts.outcome_is
          (subst (λ (d : Event). Step (left_by sound.legal.0 (v.seen ++ acts.between)) d
          acts.entry.outcome acts.entry.left) acts.event_is step),
    )

-- ---- an Open

-- the own answer to an Open
own-answer : (s : State) (name : List ℕ) (registered : Bool)
    → OpensWith (acted s (event.Open name registered)).reply
own-answer s name registered =
    cond_both (is_name name) (opened_as s registered name (free_id s)) (stays s reply.NameRefused)
    (λ a. OpensWith a.reply) (λ named. by_id (free_id s)) (λ other. tt)
  where
    by_id : (o : Option ℕ) → OpensWith (opened_as s registered name o).reply
    by_id None = tt
    by_id (Some user) = tt

serves-open : (old : Past) (name : List ℕ) (registered : Bool) (answer : Reply) (new : Past)
    (fault : Option ℕ) → Serves fault old (event.Open name registered) answer new
    → OpensWith answer
serves-open old name registered answer new (Some first) h = subst OpensWith (sym h.reply) tt
serves-open old name registered answer new None h =
    by_room (has_room old.journal (event.Open name registered)) h
  where
    by_room : (b : Bool)
        → MatchBool b (Accepts old (event.Open name registered) answer new
        ⊎ FailsFirst old (event.Open name registered) answer new)
        (Refuses old (event.Open name registered) reply.Ended answer new) → OpensWith answer
    by_room true (inl accepts) =
        subst OpensWith (sym accepts.reply) (own-answer (state_of old) name registered)
    by_room true (inr fails) = subst OpensWith (sym fails.reply) tt
    by_room false refuses = subst OpensWith (sym refuses.reply) tt

-- what an Open is answered
pub opens-with : (name : List ℕ) (registered : Bool) (answer : Reply)
    → ((old new : Past) × Step old (event.Open name registered) (Ok answer) new)
    → OpensWith answer
opens-with name registered answer (old, new, step) =
    serves-open old name registered answer new old.first_fault step

-- ---- the answer

-- the Welcome could not be written
pub welcome-fails : (u v w : SeatView) (held taken : Option (List ℕ)) (name : List ℕ)
    (greeting : Greeting) (outcome : ReplyOrMemory)
    → ((xs ys : List LogEntry) → Continues u xs v → Continues v ys w → Continues u (xs ++ ys) w)
    → ActsOnce u (event.Open name false) (Ok (reply_of greeting)) v
    → Welcomes v w held taken greeting (Err outcome)
    → (a : Answers u w held taken name (Err greet.WriteFault))
    × (last_outcome a.acts ≡ Some outcome)
welcome-fails u v w held taken name greeting outcome both once h = (
  record {
    acts = once.act ∷ h.acts;
    goes = both (once.act ∷ []) h.acts once.goes h.goes;
    by = inl (
      greeting,
      (once.act, h.by.0, ap (λ l. once.act ∷ l) h.by.1, once.is, h.by.2.event_is),
      h.by.3,
    );
  },
  ap (λ l. last_outcome (once.act ∷ l)) h.by.1 ∙ ap (λ o. Some o) h.by.2.outcome_is,
)

keeps-same : (held : Option (List ℕ)) → Keeps held held
keeps-same None = tt
keeps-same (Some xs) = refl

-- the Welcome was written
pub welcome-done : (u v w : SeatView) (held taken : Option (List ℕ)) (name : List ℕ)
    (greeting : Greeting)
    → ((xs ys : List LogEntry) → Continues u xs v → Continues v ys w → Continues u (xs ++ ys) w)
    → ActsOnce u (event.Open name false) (Ok (reply_of greeting)) v
    → Welcomes v w held taken greeting (Ok tt)
    → (a : Answers u w held taken name (Ok greeting))
    × (last_outcome a.acts ≡ Some (Ok (reply_of greeting)))
welcome-done u v w held taken name greeting both once h = (
  record {
    acts = once.act ∷ h.acts;
    goes = both (once.act ∷ []) h.acts once.goes h.goes;
    by = ((once.act, ap (λ l. once.act ∷ l) h.by.0, once.is), h.by.1);
  },
  ap (λ l. last_outcome (once.act ∷ l)) h.by.0 ∙ ap (λ o. Some o) once.is.outcome_is,
)

-- the session refused the Open
pub refused-answers : (u v : SeatView) (held taken : Option (List ℕ)) (name : List ℕ)
    (end : GreetEnd) (answer : Reply) → ActsOnce u (event.Open name false) (Ok answer) v
    → RefusesBy end answer held taken
    → (a : Answers u v held taken name (Err end)) × (last_outcome a.acts ≡ Some (Ok answer))
refused-answers u v held taken name (greet.Refused other) answer once h =
    subst (λ r. (a : Answers u v held taken name (Err (greet.Refused r)))
    × (last_outcome a.acts ≡ Some (Ok answer))) (sym h.0) (
      record {
        acts = once.act ∷ [];
        goes = once.goes;
        by = (h.1, ((once.act, refl, once.is), h.2), h.3);
      },
      ap (λ o. Some o) once.is.outcome_is,
    )
refused-answers u v held taken name greet.WriteFault answer once h = (
  record {
    acts = once.act ∷ [];
    goes = once.goes;
    by = inr (answer, h.0, ((once.act, refl, once.is), h.1), h.2);
  },
  ap (λ o. Some o) once.is.outcome_is,
)
refused-answers u v held taken name greet.ReadFault answer once h = absurd h
refused-answers u v held taken name greet.End answer once h = absurd h
refused-answers u v held taken name (greet.BadMessage at) answer once h = absurd h
refused-answers u v held taken name greet.Memory answer once h = absurd h

pub refused-fault : (end : GreetEnd) (answer : Reply) (held taken : Option (List ℕ))
    (before now : ℕ) → RefusesBy end answer held taken → FaultMatchesRefusal end before now
    → FaultMatchesHello {T = Greeting} (Err end) 0 0 before now
refused-fault (greet.Refused other) answer held taken before now h fault = (refl, fault)
refused-fault greet.WriteFault answer held taken before now h fault = (refl, fault)
refused-fault greet.ReadFault answer held taken before now h fault = absurd h
refused-fault greet.End answer held taken before now h fault = absurd h
refused-fault (greet.BadMessage at) answer held taken before now h fault = absurd h
refused-fault greet.Memory answer held taken before now h fault = absurd h

-- memory ran out in the Open
pub memory-answers : (u v : SeatView) (held : Option (List ℕ)) (name : List ℕ)
    (error : AllocError) → ActsOnce u (event.Open name false) (Err error) v
    → (a : Answers u v held held name (Err greet.Memory))
    × (last_outcome a.acts ≡ Some (Err error))
memory-answers u v held name error once = (
  record {
    acts = once.act ∷ [];
    goes = once.goes;
    by = (error, (once.act, refl, once.is), keeps-same held);
  },
  ap (λ o. Some o) once.is.outcome_is,
)

-- ---- the whole

-- no Hello came
pub unnamed-greets : (v : SeatView) (left unread held : Option (List ℕ)) (stream : Stream)
    (end : GreetEnd) → Continues v [] v → ReadsName left unread stream (Err end)
    → (h : Greets v v left unread held held stream (Err end)) × (last_outcome h.acts ≡ None)
unnamed-greets v left unread held stream end none h = (
  record { read = h.read; acts = []; read_is = h.read_is; goes = none; by = by_end end h.by },
  refl,
)
  where
    by_end : (end : GreetEnd) → NamesBy (Err end) h.read stream
        → GreetsBy (Err end) h.read stream [] held held
    by_end greet.ReadFault k = (k, (refl, keeps-same held))
    by_end greet.End k = (k, (refl, keeps-same held))
    by_end (greet.BadMessage at) k = (k.0, k.1, (refl, keeps-same held))
    by_end greet.Memory k = inl (refl, keeps-same held)
    by_end (greet.Refused answer) k = absurd k
    by_end greet.WriteFault k = absurd k

-- a Hello came, and was answered
pub named-greets : (v w : SeatView) (left unread held taken : Option (List ℕ)) (stream : Stream)
    (name : List ℕ) (result : Result Greeting GreetEnd) (last : Option ReplyOrMemory)
    → ReadsName left unread stream (Ok name)
    → ((a : Answers v w held taken name result) × (last_outcome a.acts ≡ last))
    → (h : Greets v w left unread held taken stream result) × (last_outcome h.acts ≡ last)
named-greets v w left unread held taken stream name result last h (a, is) = (
  record {
    read = h.read;
    acts = a.acts;
    read_is = h.read_is;
    goes = a.goes;
    by = by_result result a.by;
  },
  is,
)
  where
    by_result : (result : Result Greeting GreetEnd) → AnswersBy result name a.acts held taken
        → GreetsBy result h.read stream a.acts held taken
    by_result (Ok greeting) k = (name, h.by.0, h.by.1, k)
    by_result (Err greet.ReadFault) k = absurd k
    by_result (Err greet.End) k = absurd k
    by_result (Err (greet.BadMessage at)) k = absurd k
    by_result (Err greet.Memory) k = inr (name, stream.held, h.by.0, k)
    by_result (Err (greet.Refused answer)) k = (name, stream.held, h.by.0, k)
    by_result (Err greet.WriteFault) k = (name, stream.held, h.by.0, k)
