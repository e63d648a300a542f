-- The answers of a session have the replies to the events of a log that are kept.
use Rattle.std.proofs.Common.{◌≡◌, true, List, [], ◌∷◌, ◌++◌, Ok, refl, sym, ap, ◌∙◌}
use Rattle.std.proofs.Common.{append-nil, append_assoc}
use Rattle.dp_lists.proofs.Options.{option_both}
use Rattle.dp_hall.specs.Logs.{left_by}
use Rattle.dp_epochs.specs.declared.connection.Ending.TheVariants as ending
use Rattle.dp_epochs.specs.declared.connection.Connection.{Connection}
use Rattle.dp_epochs.specs.declared.event.Event.{Event}
use Rattle.dp_epochs.specs.declared.event.Event.TheVariants as event
use Rattle.dp_epochs.specs.declared.event.Reply.{Reply}
use Rattle.dp_epochs.specs.declared.event.Reply.TheVariants as reply
use Rattle.dp_epochs.specs.State.{State, open_connection, with_connection}
use Rattle.dp_epochs.specs.Past.{Past, state_of, answer_to}
use Rattle.dp_epochs.specs.Laws.{ShutBefore, shut_by}
use Rattle.dp_session_laws.specs.Logs.{ReplyOrMemory, LogEntry, IsSessionLog}
use Rattle.dp_session_laws.specs.Journals.{is_kept, kept_reply, kept_replies}
use Rattle.dp_session_laws.proofs.Growth.{EpochLaws, step-goes}
use Rattle.dp_session_laws.proofs.JournalLemmas.{own-kept}
use Rattle.dp_session_laws.proofs.Steps.{Came, WasKept, WasEnded, WasFault, RanOut, step-came}
use Rattle.dp_session_laws.proofs.Steps.{refused-leads, quieted-leads}

reply-kept : (answer : Reply) → is_kept (Ok answer) ≡ true
    → kept_reply (Ok answer) ≡ answer ∷ []
reply-kept reply.Ended is = cc
reply-kept (reply.StoreFault count) is = cc
reply-kept answer is = refl

own-reply : EpochLaws → (old : Past) (e : Event)
    → kept_reply (Ok (answer_to old e)) ≡ answer_to old e ∷ []
own-reply laws old e = reply-kept (answer_to old e) (own-kept laws.effects (state_of old) e)

shut-answers : (s : State) (e : Event) → (shut_by s e).answers ≡ s.answers
shut-answers s (event.Open name registered) = refl
shut-answers s (event.Say conn m) = refl
shut-answers s (event.Close conn) =
    option_both
    (λ (c : Connection). with_connection s conn (record c { ending = ending.Shut }))
    (open_connection s conn) s (λ (t : State). t.answers ≡ s.answers) (λ c is. refl) refl

-- if the state's answers stay, and the outcome has no reply of an event that is kept
answers-stay : (old : Past) (outcome : ReplyOrMemory) (new : Past)
    → (state_of new).answers ≡ (state_of old).answers → kept_reply outcome ≡ []
    → (state_of new).answers ≡ (state_of old).answers ++ kept_reply outcome
answers-stay old outcome new same none =
    same ∙ sym (append-nil (state_of old).answers)
    ∙ ap (λ l. (state_of old).answers ++ l) (sym none)

came-answers : EpochLaws → (old : Past) (e : Event) (outcome : ReplyOrMemory) (new : Past)
    → ShutBefore old → Came old e outcome new
    → (state_of new).answers ≡ (state_of old).answers ++ kept_reply outcome
came-answers laws old e outcome new before (WasKept is after) =
    ap (λ (t : State). t.answers) (ap state_of after ∙ laws.kept_leads old e before)
    ∙ ap (λ l. (state_of old).answers ++ l) (sym (ap kept_reply is ∙ own-reply laws old e))
came-answers laws old e outcome new before (WasEnded is full h) =
    answers-stay old outcome new
    (ap (λ (t : State). t.answers) (refused-leads laws old e new h)
    ∙ shut-answers (state_of old) e) (ap kept_reply is)
came-answers laws old e outcome new before (WasFault count is h) =
    answers-stay old outcome new
    (ap (λ (t : State). t.answers) (refused-leads laws old e new h)
    ∙ shut-answers (state_of old) e) (ap kept_reply is)
came-answers laws old e outcome new before (RanOut error is after) =
    answers-stay old outcome new
    (ap (λ (t : State). t.answers) (ap state_of after ∙ quieted-leads old e)) (ap kept_reply is)

pub log-answers : EpochLaws → (old : Past) (log : List LogEntry) → ShutBefore old
    → IsSessionLog old log
    → (state_of (left_by old log)).answers ≡ (state_of old).answers ++ kept_replies log
log-answers laws old [] before legal = sym (append-nil (state_of old).answers)
log-answers laws old (act ∷ log) before legal =
    let step = step-goes laws old act.event act.outcome act.left before legal.0 in
    log-answers laws act.left log step.before legal.1
    ∙ ap (λ l. l ++ kept_replies log)
    (came-answers laws old act.event act.outcome act.left before
    (step-came old act.event act.outcome act.left legal.0))
    ∙ append_assoc (state_of old).answers (kept_reply act.outcome) (kept_replies log)
