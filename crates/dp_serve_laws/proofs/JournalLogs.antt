-- A journal whose rows may stand, as the log of a session to which nothing had come.
use Rattle.std.proofs.Common.{◌≡◌, ◌⊎◌, ℕ, ◌<◌, ◌≤◌, if◌then◌else◌, List, [], ◌∷◌, ◌++◌, length}
use Rattle.std.proofs.Common.{None}
use Rattle.std.proofs.Common.{Ok, refl, sym, ap, subst, ◌∙◌, inl, arith, append-nil, append_assoc}
use Rattle.std.specs.Prelude.{MatchBool}
use Rattle.std.proofs.lemmas.List.Elements.{All-nil}
use Rattle.dp_keeper.specs.declared.row.Row.{Row}
use Rattle.dp_hall.specs.Logs.{left_by}
use Rattle.dp_epochs.specs.declared.event.Event.{Event}
use Rattle.dp_epochs.specs.declared.event.Reply.TheVariants as reply
use Rattle.dp_epochs.specs.declared.event.ShutAt.{ShutAt}
use Rattle.dp_epochs.specs.Laws.{ShutBefore}
use Rattle.dp_epochs.specs.Resumed.{StandAfter, AreRowsOf, MayStand}
use Rattle.dp_epochs.specs.Past.{Past, Step, Accepts, FailsFirst, Refuses, answer_to, state_of}
use Rattle.dp_session_laws.specs.Logs.{LogEntry, IsSessionLog}
use Rattle.dp_session_laws.specs.Journals.{kept_events, kept_replies}
use Rattle.dp_session_laws.proofs.Growth.{EpochLaws}
use Rattle.dp_session_laws.proofs.JournalLemmas.{own-kept}
use Rattle.dp_session_laws.proofs.Replies.{log-answers}
use Rattle.dp_serve_laws.specs.Acts.{events_about}
use Rattle.dp_serve_laws.proofs.ActLemmas.{kept-about}
use Rattle.dp_serve_laws.proofs.GivenLemmas.{AreFew, AreNamed, about-none, log-few}

-- a session to which these events have come, and of whose store nothing is known
abbrev pub past_with : List Event → Past
past_with journal = record {
  journal = journal;
  shut = [];
  quiet = [];
  first_fault = None;
  known = None;
  count = 0;
  read_faults = 0;
}

past_with-before : (journal : List Event) → ShutBefore (past_with journal)
past_with-before journal = All-nil (λ (s : ShutAt). s.n ≤ length journal)

-- the events as the acts of a log that leads from the ones before to all
record JournalLog (before events : List Event) : Type 0 where
  log : List LogEntry
  legal : IsSessionLog (past_with before) log
  left_is : left_by (past_with before) log ≡ past_with (before ++ events)
  kept_is : kept_events log ≡ events
  named : AreNamed (past_with before) log

module _ (laws : EpochLaws) where
  one-act : (before : List Event) (row : Row) (e : Event) (events : List Event)
      → MayStand before row e → JournalLog (before ++ e ∷ []) events
      → JournalLog before (e ∷ events)
  one-act before row e events stands rest = record {
    log = act ∷ rest.log;
    legal = (step, rest.legal);
    left_is = rest.left_is ∙ ap past_with (append_assoc before (e ∷ []) events);
    kept_is =
        ap (λ b. if b then e ∷ kept_events rest.log else kept_events rest.log)
        (own-kept laws.effects (state_of (past_with before)) e) ∙ ap (λ l. e ∷ l) rest.kept_is;
    named = (stands.given, rest.named);
  }
    where
      next : Past
      next = past_with (before ++ e ∷ [])

      act : LogEntry
      act = record {
        by = [];
        event = e;
        outcome = Ok (answer_to (past_with before) e);
        left = next;
      }

      step : Step (past_with before) e (Ok (answer_to (past_with before) e)) next
      step =
          subst (λ b. MatchBool b
          (Accepts (past_with before) e (answer_to (past_with before) e) next
          ⊎ FailsFirst (past_with before) e (answer_to (past_with before) e) next)
          (Refuses (past_with before) e reply.Ended (answer_to (past_with before) e) next))
          (sym stands.room) (inl (record { reply = refl; after = refl }))

  journal-log : (before : List Event) (rows : List Row) (events : List Event)
      → StandAfter before rows events → JournalLog before events
  journal-log before [] [] h = record {
    log = [];
    legal = tt;
    left_is = ap past_with (sym (append-nil before));
    kept_is = refl;
    named = tt;
  }
  journal-log before [] (e ∷ events) h = absurd h
  journal-log before (row ∷ rows) [] h = absurd h
  journal-log before (row ∷ rows) (e ∷ events) h =
      one-act before row e events h.0 (journal-log (before ++ e ∷ []) rows events h.1)

  module _ (rows : List Row) (journal : List Event) (are : AreRowsOf rows journal) where
    of : JournalLog [] journal
    of = journal-log [] rows journal are

    pub journal-few : AreFew (past_with journal)
    journal-few =
        subst AreFew of.left_is
        (log-few laws (past_with []) of.log (past_with-before []) of.legal (record {
          connections = omega arith;
          events = omega arith;
        }))

    -- its events are of connections that were given out
    pub journal-about-none : (conn : ℕ)
        → length (state_of (past_with journal)).connections < conn
        → events_about conn journal (state_of (past_with journal)).answers ≡ []
    journal-about-none conn fewer =
        let replies : (state_of (past_with journal)).answers ≡ kept_replies of.log =
        ap (λ (p : Past). (state_of p).answers) (sym of.left_is)
        ∙ log-answers laws (past_with []) of.log (past_with-before []) of.legal in
        ap (λ l. events_about conn l (state_of (past_with journal)).answers) (sym of.kept_is)
        ∙ ap (events_about conn (kept_events of.log)) replies
        ∙ kept-about conn of.log
        ∙ ap kept_events
        (about-none laws conn (past_with []) of.log (past_with-before []) of.legal of.named
        (subst (λ (p : Past). length (state_of p).connections < conn) (sym of.left_is) fewer))
