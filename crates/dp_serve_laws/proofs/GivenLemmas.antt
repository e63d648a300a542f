-- Connections that were given out, over a log: that its events may be put, and that none is of a
-- later connection.
use Rattle.std.proofs.Common.{◌≡◌, ◌⊎◌, ℕ, ◌+◌, ◌-◌, ◌<◌, ◌≤◌, ◌^◌, Bool, true, false, List, []}
use Rattle.std.proofs.Common.{◌∷◌, length, Option, None, Some, Ok, Err, refl, sym, ap, subst}
use Rattle.std.proofs.Common.{◌∙◌, inl, inr, arith, length-append, length-set}
use Rattle.std.specs.Prelude.{is_some, nat_le, nat_lt, MatchBool, ⊤}
use Rattle.std.proofs.lemmas.Bool.{eqb-true, ltb-true, and_parts}
use Rattle.std.proofs.lemmas.Option.{slice_get_within}
use Rattle.dp_lists.proofs.Numbered.{number-found}
use Rattle.dp_lists.proofs.Options.{cases_option, option_both}
use Rattle.dp_hall.specs.Logs.{left_by}
use Rattle.dp_hall.specs.Names.{IsIn}
use Rattle.dp_hall.proofs.ListLemmas.{not_true}
use Rattle.dp_epochs.specs.declared.connection.Connection.{Connection}
use Rattle.dp_epochs.specs.declared.connection.Ending.TheVariants as ending
use Rattle.dp_epochs.specs.declared.effect.Effect.{Effect}
use Rattle.dp_epochs.specs.declared.effect.Effect.TheVariants.{TakesUp, Joined, Left}
use Rattle.dp_epochs.specs.declared.event.Event.{Event}
use Rattle.dp_epochs.specs.declared.event.Event.TheVariants as event
use Rattle.dp_epochs.specs.declared.event.Reply.{Reply}
use Rattle.dp_epochs.specs.declared.event.Reply.TheVariants as reply
use Rattle.dp_epochs.specs.Effects.{connections_after}
use Rattle.dp_epochs.specs.Laws.{ShutBefore, shut_by}
use Rattle.dp_epochs.specs.Resumed.{NamesGiven}
use Rattle.dp_epochs.specs.Rows.{byte_limit, event_limit, has_room, row_bytes, row_of}
use Rattle.dp_epochs.specs.State.{State, after_event, connection_of, epoch_of, here, noted}
use Rattle.dp_epochs.specs.State.{open_connection, with_connection, new_connection}
use Rattle.dp_epochs.specs.Past.{Past, Step, Serves, Accepts, FailsFirst, Refuses, quieted}
use Rattle.dp_epochs.specs.Past.{state_of}
use Rattle.dp_session_laws.specs.Logs.{ReplyOrMemory, LogEntry, IsSessionLog}
use Rattle.dp_session_laws.specs.Closings.{given_by}
use Rattle.dp_session_laws.specs.Kept.{IsPuttable, ArePuttable}
use Rattle.dp_session_laws.proofs.Growth.{EpochLaws, Goes, step-goes, log-goes}
use Rattle.dp_session_laws.proofs.Openings.{begins-in}
use Rattle.dp_session_laws.proofs.Steps.{Came, WasKept, WasEnded, WasFault, RanOut, step-came}
use Rattle.dp_session_laws.proofs.Steps.{refused-leads, quieted-leads}
use Rattle.dp_serve_laws.specs.Acts.{is_of, is_about, acts_about}
use Rattle.dp_serve_laws.proofs.NamingLemmas.{Names, NamesAfter, OrGiven, after-weaker}

-- ---- one connection

-- the connection was given out
abbrev pub IsGivenOut : Past → ℕ → Type 0
IsGivenOut past conn = is_some (connection_of (state_of past) conn) ≡ true

-- its number is among those that were given out
given-few : (past : Past) (conn : ℕ) → IsGivenOut past conn
    → conn ≤ length (state_of past).connections
given-few past conn given = by (cases_option (connection_of (state_of past) conn))
  where
    by : (connection_of (state_of past) conn ≡ None)
        ⊎ ((c : Connection) × (connection_of (state_of past) conn ≡ Some c))
        → conn ≤ length (state_of past).connections
    by (inl none) = let wrong : false ≡ true = sym (ap is_some none) ∙ given in cc
    by (inr found) =
        let at = number-found (state_of past).connections conn found.0 found.1 in
        omega (
          arith,
          at.0,
          slice_get_within (state_of past).connections (conn - 1) found.0 at.1,
        )

given-stays : (old new : Past) (conn : ℕ) → Goes old new → IsGivenOut old conn → IsGivenOut new conn
given-stays old new conn goes given = by (cases_option (connection_of (state_of old) conn))
  where
    by : (connection_of (state_of old) conn ≡ None)
        ⊎ ((c : Connection) × (connection_of (state_of old) conn ≡ Some c)) → IsGivenOut new conn
    by (inl none) = let wrong : false ≡ true = sym (ap is_some none) ∙ given in cc
    by (inr found) = ap is_some (goes.grows.connections conn found.0 found.1).1

-- a connection that an act gave out was given out after it
act-given : EpochLaws → (old : Past) (act : LogEntry) (conn : ℕ) → ShutBefore old
    → Step old act.event act.outcome act.left → IsIn conn (given_by act.outcome)
    → IsGivenOut act.left conn
act-given laws old act conn before step given = by act.outcome refl given
  where
    by : (outcome : ReplyOrMemory) → act.outcome ≡ outcome → IsIn conn (given_by outcome)
        → IsGivenOut act.left conn
    by (Ok (reply.Opened c user epoch at)) is (inl same) =
        let b = begins-in laws old (act ∷ []) c user epoch at before (step, tt)
        (record { act = act; within = inl refl; answer = is }) in
        subst (IsGivenOut act.left) (sym same) (ap is_some b.is)
    by (Ok (reply.Opened c user epoch at)) is (inr none) = absurd none
    by (Ok answer) is none = absurd none
    by (Err error) is none = absurd none

-- ---- how many there are

-- no more connections were given out than events were kept, and there are no more than may be
pub record AreFew (past : Past) : Type 0 where
  pub connections : length (state_of past).connections ≤ length past.journal
  pub events : length past.journal ≤ event_limit

effect-more : (s : State) (effect : Effect)
    → length (connections_after s effect) ≤ length s.connections + 1
effect-more s (TakesUp conn c) =
    omega (
      arith,
      length-set s.connections (conn - 1) (record c { acknowledged = epoch_of s }),
    )
effect-more s (Joined user next) =
    omega (arith, length-append s.connections (new_connection s user ∷ []))
effect-more s (Left conn c next) =
    omega (
      arith,
      length-set s.connections (conn - 1) (record c { ending = ending.Left (here s) }),
    )
effect-more s effect = omega arith

event-more : EpochLaws → (s : State) (e : Event)
    → length (after_event s e).connections ≤ length s.connections + 1
event-more laws s e =
    let h = laws.effects s e in
    subst (λ a. length (noted s a).connections ≤ length s.connections + 1) (sym h.made)
    (effect-more s h.effect)

shut-same : (s : State) (e : Event) → length (shut_by s e).connections ≡ length s.connections
shut-same s (event.Open name registered) = refl
shut-same s (event.Say conn m) = refl
shut-same s (event.Close conn) =
    option_both
    (λ (c : Connection). with_connection s conn (record c { ending = ending.Shut }))
    (open_connection s conn) s (λ (t : State). length t.connections ≡ length s.connections)
    (λ c is. length-set s.connections (conn - 1) (record c { ending = ending.Shut })) refl

quieted-journal : (old : Past) (e : Event) → (quieted old e).journal ≡ old.journal
quieted-journal old (event.Open name registered) = refl
quieted-journal old (event.Say conn m) = refl
quieted-journal old (event.Close conn) = refl

came-few : EpochLaws → (old : Past) (e : Event) (outcome : ReplyOrMemory) (new : Past)
    → ShutBefore old → Came old e outcome new
    → length (state_of old).connections ≤ length old.journal
    → length (state_of new).connections ≤ length new.journal
came-few laws old e outcome new before (WasKept is after) few =
    let leads : state_of new ≡ after_event (state_of old) e =
    ap state_of after ∙ laws.kept_leads old e before in
    omega (
      arith,
      few,
      ap (λ (t : State). length t.connections) leads,
      event-more laws (state_of old) e,
      ap (λ (p : Past). length p.journal) after,
      length-append old.journal (e ∷ []),
    )
came-few laws old e outcome new before (WasEnded is full h) few =
    omega (
      arith,
      few,
      ap (λ (t : State). length t.connections) (refused-leads laws old e new h),
      shut-same (state_of old) e,
      ap length h.journal,
    )
came-few laws old e outcome new before (WasFault count is h) few =
    omega (
      arith,
      few,
      ap (λ (t : State). length t.connections) (refused-leads laws old e new h),
      shut-same (state_of old) e,
      ap length h.journal,
    )
came-few laws old e outcome new before (RanOut error is after) few =
    omega (
      arith,
      few,
      ap (λ (t : State). length t.connections) (ap state_of after ∙ quieted-leads old e),
      ap (λ (p : Past). length p.journal) after,
      ap length (quieted-journal old e),
    )

-- the journal stays within the limit
served-within : (old : Past) (e : Event) (answer : Reply) (new : Past) (fault : Option ℕ)
    → length old.journal ≤ event_limit → Serves fault old e answer new
    → length new.journal ≤ event_limit
served-within old e answer new (Some first) few h =
    omega (arith, few, ap (λ (p : Past). length p.journal) h.after)
served-within old e answer new None few h = by (has_room old.journal e) refl h
  where
    by : (b : Bool) → has_room old.journal e ≡ b
        → MatchBool b (Accepts old e answer new ⊎ FailsFirst old e answer new)
        (Refuses old e reply.Ended answer new) → length new.journal ≤ event_limit
    by true room (inl accepts) =
        let parts : (nat_lt (length old.journal) event_limit ≡ true)
        × (nat_le (row_bytes old.journal + length (row_of e)) byte_limit ≡ true) =
        and_parts _ _ room in
        omega (
          arith,
          ltb-true (length old.journal) event_limit parts.0,
          ap (λ (p : Past). length p.journal) accepts.after,
          length-append old.journal (e ∷ []),
        )
    by true room (inr fails) =
        omega (arith, few, ap (λ (p : Past). length p.journal) fails.after)
    by false room refuses =
        omega (arith, few, ap (λ (p : Past). length p.journal) refuses.after)

step-within : (old : Past) (e : Event) (outcome : ReplyOrMemory) (new : Past)
    → length old.journal ≤ event_limit → Step old e outcome new
    → length new.journal ≤ event_limit
step-within old e (Ok answer) new few h =
    served-within old e answer new old.first_fault few h
step-within old e (Err error) new few h =
    omega (
      arith,
      few,
      ap (λ (p : Past). length p.journal) h,
      ap length (quieted-journal old e),
    )

step-few : EpochLaws → (old : Past) (act : LogEntry) → ShutBefore old
    → Step old act.event act.outcome act.left → AreFew old → AreFew act.left
step-few laws old act before step few = record {
  connections =
      came-few laws old act.event act.outcome act.left before
      (step-came old act.event act.outcome act.left step) few.connections;
  events = step-within old act.event act.outcome act.left few.events step;
}

pub log-few : EpochLaws → (old : Past) (log : List LogEntry) → ShutBefore old
    → IsSessionLog old log → AreFew old → AreFew (left_by old log)
log-few laws old [] before legal few = few
log-few laws old (act ∷ log) before legal few =
    log-few laws act.left log
    (step-goes laws old act.event act.outcome act.left before legal.0).before legal.1
    (step-few laws old act before legal.0 few)

-- ---- what may be put

fits : (past : Past) (conn : ℕ) → AreFew past → IsGivenOut past conn → conn < 2 ^ 32
fits past conn few given =
    omega (arith, few.connections, few.events, given-few past conn given)

may-be-put : (past : Past) (e : Event) → AreFew past → Names (IsGivenOut past) e → IsPuttable past e
may-be-put past (event.Open name registered) few h = record { row = tt; given = tt }
may-be-put past (event.Say conn m) few h =
    record { row = (fits past conn few h.0, h.1); given = h.0 }
may-be-put past (event.Close conn) few h = record { row = fits past conn few h; given = h }

-- a connection that was given out before an act or by it
or-given : EpochLaws → (past : Past) (act : LogEntry) → ShutBefore past
    → Step past act.event act.outcome act.left → (conn : ℕ) → OrGiven (IsGivenOut past) act conn
    → IsGivenOut act.left conn
or-given laws past act before legal conn (inl given) =
    given-stays past act.left conn
    (step-goes laws past act.event act.outcome act.left before legal) given
or-given laws past act before legal conn (inr given) =
    act-given laws past act conn before legal given

pub log-puttable : EpochLaws → (past : Past) (log : List LogEntry) → ShutBefore past → AreFew past
    → IsSessionLog past log → NamesAfter (IsGivenOut past) log → ArePuttable past log
log-puttable laws past [] before few legal names = tt
log-puttable laws past (act ∷ log) before few legal names =
    let step = step-goes laws past act.event act.outcome act.left before legal.0 in (
      may-be-put past act.event few names.0,
      log-puttable laws act.left log step.before (step-few laws past act before legal.0 few)
          legal.1
          (after-weaker (OrGiven (IsGivenOut past) act) (IsGivenOut act.left)
          (or-given laws past act before legal.0) log names.1),
    )

-- each event of the log names a connection that was given out by then, if it names one
abbrev pub AreNamed : Past → List LogEntry → Type 0
AreNamed past [] = ⊤
AreNamed past (act ∷ log) = NamesGiven (state_of past) act.event × AreNamed act.left log

names-given : (past : Past) (e : Event) → Names (IsGivenOut past) e → NamesGiven (state_of past) e
names-given past (event.Open name registered) h = tt
names-given past (event.Say conn m) h = h.0
names-given past (event.Close conn) h = h

pub log-named : EpochLaws → (past : Past) (log : List LogEntry) → ShutBefore past
    → IsSessionLog past log → NamesAfter (IsGivenOut past) log → AreNamed past log
log-named laws past [] before legal names = tt
log-named laws past (act ∷ log) before legal names =
    let step = step-goes laws past act.event act.outcome act.left before legal.0 in (
      names-given past act.event names.0,
      log-named laws act.left log step.before legal.1
          (after-weaker (OrGiven (IsGivenOut past) act) (IsGivenOut act.left)
          (or-given laws past act before legal.0) log names.1),
    )

-- ---- acts of a connection that was not given out

module _ (laws : EpochLaws) (past : Past) (act : LogEntry) (conn : ℕ) (before : ShutBefore past)
    (legal : Step past act.event act.outcome act.left) where
  -- a connection that the act is of was given out after it
  about-given : (e : Event) (outcome : ReplyOrMemory) → act.outcome ≡ outcome
      → NamesGiven (state_of past) e → is_of conn e outcome ≡ true → IsGivenOut act.left conn
  about-given (event.Open name registered) (Ok (reply.Opened given user epoch at)) is named about =
      act-given laws past act conn before legal
      (subst (λ (o : ReplyOrMemory). IsIn conn (given_by o)) (sym is)
      (inl (sym (eqb-true given conn about))))
  about-given (event.Open name registered) (Ok answer) is named about = cc
  about-given (event.Open name registered) (Err error) is named about = cc
  about-given (event.Say by m) outcome is named about =
      given-stays past act.left conn
      (step-goes laws past act.event act.outcome act.left before legal)
      (subst (IsGivenOut past) (eqb-true by conn about) named)
  about-given (event.Close by) outcome is named about =
      given-stays past act.left conn
      (step-goes laws past act.event act.outcome act.left before legal)
      (subst (IsGivenOut past) (eqb-true by conn about) named)

-- if a log leaves fewer connections, none of its acts is of the connection
pub about-none : EpochLaws → (conn : ℕ) (past : Past) (log : List LogEntry) → ShutBefore past
    → IsSessionLog past log → AreNamed past log
    → length (state_of (left_by past log)).connections < conn → acts_about conn log ≡ []
about-none laws conn past [] before legal named fewer = refl
about-none laws conn past (act ∷ log) before legal named fewer =
    let step = step-goes laws past act.event act.outcome act.left before legal.0 in
    let goes = log-goes laws act.left log step.before legal.1 in
    let other : is_about conn act ≡ false =
    not_true (is_about conn act) (λ about.
    let given = given-few (left_by act.left log) conn
    (given-stays act.left (left_by act.left log) conn goes
    (about-given laws past act conn before legal.0 act.event act.outcome refl named.0 about)) in
    omega (arith, given, fewer)) in
    rw other (about-none laws conn act.left log step.before legal.1 named.1 fewer)
