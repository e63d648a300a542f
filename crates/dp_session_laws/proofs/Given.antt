-- The connections that a log gives out rise.
use Rattle.std.proofs.Common.{◌≡◌, ◌⊎◌, ℕ, ◌+◌, ◌-◌, ◌<◌, List, [], ◌∷◌, ◌++◌, length, Ok}
use Rattle.std.proofs.Common.{refl, sym, ap, subst, ◌∙◌, inl, inr, arith, length-append, length-set}
use Rattle.dp_lists.proofs.Options.{option_both}
use Rattle.dp_hall.specs.Names.{IsIn, AreDistinct}
use Rattle.dp_epochs.specs.declared.connection.Ending.TheVariants as ending
use Rattle.dp_epochs.specs.declared.connection.Connection.{Connection}
use Rattle.dp_epochs.specs.declared.effect.Effect.{Effect}
use Rattle.dp_epochs.specs.declared.effect.Effect.TheVariants.{Nothing, TakesUp, Joined, Left}
use Rattle.dp_epochs.specs.declared.event.Event.{Event}
use Rattle.dp_epochs.specs.declared.event.Event.TheVariants as event
use Rattle.dp_epochs.specs.declared.event.Reply.{Reply}
use Rattle.dp_epochs.specs.declared.event.Reply.TheVariants as reply
use Rattle.dp_epochs.specs.State.{State, epoch_of, here, open_connection, with_connection}
use Rattle.dp_epochs.specs.State.{new_connection, acted, noted, after_event}
use Rattle.dp_epochs.specs.Effects.{answer_of, connections_after, IsEffect, IsStill}
use Rattle.dp_epochs.specs.Past.{Past, state_of, answer_to}
use Rattle.dp_epochs.specs.Laws.{ShutBefore, shut_by}
use Rattle.dp_session_laws.specs.Logs.{ReplyOrMemory, LogEntry, IsSessionLog}
use Rattle.dp_session_laws.specs.Closings.{given_by, given_out, Rise}
use Rattle.dp_session_laws.proofs.Growth.{EpochLaws, step-goes}
use Rattle.dp_session_laws.proofs.Steps.{Came, WasKept, WasEnded, WasFault, RanOut, step-came}
use Rattle.dp_session_laws.proofs.Steps.{refused-leads, quieted-leads}

-- ---- numbers that rise

rise-above : (low : ℕ) (ns : List ℕ) (n : ℕ) → Rise low ns → IsIn n ns → low < n
rise-above low [] n rise within = absurd within
rise-above low (m ∷ ns) n rise (inl same) = omega (arith, rise.0, same)
rise-above low (m ∷ ns) n rise (inr later) =
    omega (arith, rise.0, rise-above m ns n rise.1 later)

pub rise-distinct : (low : ℕ) (ns : List ℕ) → Rise low ns → AreDistinct ns
rise-distinct low [] rise = tt
rise-distinct low (n ∷ ns) rise =
    (λ within. omega (arith, rise-above n ns n rise.1 within), rise-distinct n ns rise.1)

-- of n connections there are now m, and these were given out
abbrev Gives : ℕ → List ℕ → ℕ → Type 0
Gives n given m = ((given ≡ []) × (m ≡ n)) ⊎ ((given ≡ (n + 1) ∷ []) × (m ≡ n + 1))

rise-given : (n : ℕ) (given : List ℕ) (m : ℕ) (more : List ℕ) → Gives n given m → Rise m more
    → Rise n (given ++ more)
rise-given n given m more (inl (none, same)) rise =
    subst (λ l. Rise n (l ++ more)) (sym none) (subst (λ k. Rise k more) same rise)
rise-given n given m more (inr (one, next)) rise =
    subst (λ l. Rise n (l ++ more)) (sym one) (omega arith, subst (λ k. Rise k more) next rise)

-- ---- a step

still-gives : (s : State) (e : Event) (answer : Reply) → IsStill s e answer
    → given_by (Ok answer) ≡ []
still-gives s e (reply.Opened conn user epoch at) still = absurd still
still-gives s e answer still = refl

effect-gives : (s : State) (e : Event) (effect : Effect) → IsEffect s e effect
    → Gives (length s.connections) (given_by (Ok (answer_of s effect)))
    (length (connections_after s effect))
effect-gives s e (Nothing answer) cause = inl (still-gives s e answer cause, refl)
effect-gives s e (TakesUp conn c) cause =
    inl (refl, length-set s.connections (conn - 1) (record c { acknowledged = epoch_of s }))
effect-gives s e (Joined user next) cause =
    inr (refl, omega (arith, length-append s.connections (new_connection s user ∷ [])))
effect-gives s e (Left conn c next) cause =
    inl (refl, length-set s.connections (conn - 1) (record c { ending = ending.Left (here s) }))
effect-gives s e _ cause = inl (refl, refl)

event-gives : EpochLaws → (s : State) (e : Event)
    → Gives (length s.connections) (given_by (Ok (acted s e).reply))
    (length (after_event s e).connections)
event-gives laws s e =
    let h = laws.effects s e in
    subst (λ a. Gives (length s.connections) (given_by (Ok a.reply))
    (length (noted s a).connections)) (sym h.made) (effect-gives s e h.effect h.cause)

shut-gives : (s : State) (e : Event) → length (shut_by s e).connections ≡ length s.connections
shut-gives s (event.Open name registered) = refl
shut-gives s (event.Say conn m) = refl
shut-gives s (event.Close conn) =
    option_both
    (λ (c : Connection). with_connection s conn (record c { ending = ending.Shut }))
    (open_connection s conn) s (λ (t : State). length t.connections ≡ length s.connections)
    (λ c is. length-set s.connections (conn - 1) (record c { ending = ending.Shut })) refl

came-gives : EpochLaws → (old : Past) (e : Event) (outcome : ReplyOrMemory) (new : Past)
    → ShutBefore old → Came old e outcome new
    → Gives (length (state_of old).connections) (given_by outcome)
    (length (state_of new).connections)
came-gives laws old e outcome new before (WasKept is after) =
    subst (λ (o : ReplyOrMemory). Gives (length (state_of old).connections) (given_by o)
    (length (state_of new).connections)) (sym is)
    (subst (λ (t : State). Gives (length (state_of old).connections)
    (given_by (Ok (answer_to old e))) (length t.connections))
    (sym (ap state_of after ∙ laws.kept_leads old e before)) (event-gives laws (state_of old) e))
came-gives laws old e outcome new before (WasEnded is full h) =
    inl (
      ap given_by is,
      ap (λ (t : State). length t.connections) (refused-leads laws old e new h)
          ∙ shut-gives (state_of old) e,
    )
came-gives laws old e outcome new before (WasFault count is h) =
    inl (
      ap given_by is,
      ap (λ (t : State). length t.connections) (refused-leads laws old e new h)
          ∙ shut-gives (state_of old) e,
    )
came-gives laws old e outcome new before (RanOut error is after) =
    inl (
      ap given_by is,
      ap (λ (t : State). length t.connections) (ap state_of after ∙ quieted-leads old e),
    )

-- ---- a log

pub log-rises : EpochLaws → (old : Past) (log : List LogEntry) → ShutBefore old
    → IsSessionLog old log
    → Rise (length (state_of old).connections) (given_out log)
log-rises laws old [] before legal = tt
log-rises laws old (act ∷ log) before legal =
    let step = step-goes laws old act.event act.outcome act.left before legal.0 in
    rise-given (length (state_of old).connections) (given_by act.outcome)
    (length (state_of act.left).connections) (given_out log)
    (came-gives laws old act.event act.outcome act.left before
    (step-came old act.event act.outcome act.left legal.0))
    (log-rises laws act.left log step.before legal.1)
