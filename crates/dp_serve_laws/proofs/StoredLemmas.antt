-- A session that was served after the connections that were open had been closed: what its store
-- holds, and which events of the journal are of a connection.
use Rattle.std.proofs.Common.{◌≡◌, ◌⊎◌, ℕ, ◌<◌, ◌≤◌, Bool, true, false, if◌then◌else◌, List, []}
use Rattle.std.proofs.Common.{◌∷◌, ◌++◌, All, length, map, Option, None, Some, Ok, Err, refl, sym}
use Rattle.std.proofs.Common.{ap, subst}
use Rattle.std.proofs.Common.{◌∙◌, inl, inr, arith, option_to_list}
use Rattle.std.specs.Prelude.{is_some, IfSome, MatchBool}
use Rattle.std.proofs.lemmas.List.Elements.{All-nil, filter-append}
use Rattle.dp_keeper.specs.declared.row.Row.{Row}
use Rattle.dp_io.specs.Faults.{Rose}
use Rattle.dp_hall.specs.Logs.{left_by}
use Rattle.dp_hall.specs.Names.{IsIn, AreDistinct}
use Rattle.dp_hall.proofs.ListLemmas.{in_right}
use Rattle.dp_epochs.specs.declared.event.Event.{Event}
use Rattle.dp_epochs.specs.declared.event.Event.TheVariants as event
use Rattle.dp_epochs.specs.declared.event.Reply.{Reply}
use Rattle.dp_epochs.specs.declared.event.Reply.TheVariants as reply
use Rattle.dp_epochs.specs.declared.event.ShutAt.{ShutAt}
use Rattle.dp_epochs.specs.Effects.{EventsHaveEffects}
use Rattle.dp_epochs.specs.Laws.{ShutBefore}
use Rattle.dp_epochs.specs.Rows.{has_room}
use Rattle.dp_epochs.specs.Resumed.{AreRowsOf}
use Rattle.dp_epochs.specs.Past.{Past, Step, Serves as Answers, Accepts, FailsFirst, Refuses}
use Rattle.dp_epochs.specs.Past.{quieted, row_after, state_after, state_of}
use Rattle.dp_keeper.specs.Store.{with_row}
use Rattle.dp_session_laws.specs.Logs.{ReplyOrMemory, LogEntry, IsSessionLog}
use Rattle.dp_session_laws.specs.Journals.{HasBroken, kept_events, kept_replies}
use Rattle.dp_session_laws.specs.Closings.{given_by, given_out, Rise}
use Rattle.dp_session_laws.specs.Kept.{HoldsJournal, IsStored, ArePuttable}
use Rattle.dp_session_laws.proofs.Given.{log-rises}
use Rattle.dp_session_laws.proofs.Growth.{EpochLaws}
use Rattle.dp_session_laws.proofs.JournalLemmas.{Sound, Same, First, sound-step, broken-log}
use Rattle.dp_session_laws.proofs.JournalLemmas.{log-adds}
use Rattle.dp_session_laws.proofs.Replies.{log-answers}
use Rattle.dp_serve.specs.declared.report.LinkReport.{LinkReport}
use Rattle.dp_crew.specs.Runs.{acts_of}
use Rattle.dp_serve.specs.Works.{LinkRun, IsRun}
use Rattle.dp_crew.specs.Parts.{acts_by}
use Rattle.dp_serve.specs.Serving.{Seen, Part, Left, Serves}
use Rattle.dp_serve.specs.Closings.{ServesOn, open_numbers}
use Rattle.dp_serve_laws.specs.Acts.{acts_about, events_about, events_of, is_about, is_of}
use Rattle.dp_serve_laws.specs.Acts.{KeepsActs}
use Rattle.dp_serve_laws.specs.Reported.{runs_of}
use Rattle.dp_serve_laws.specs.Stored.{IsResumed, HoldRows}
use Rattle.dp_serve_laws.proofs.ActLemmas.{kept-about}
use Rattle.dp_serve_laws.proofs.ListLemmas.{all-in, in-flat, flat-in, option-is}
use Rattle.dp_serve_laws.proofs.NamingLemmas.{NamesAfter, after-both, after-flat, after-merged}
use Rattle.dp_serve_laws.proofs.GivenLemmas.{AreFew, IsGivenOut, log-named, log-puttable}
use Rattle.dp_serve_laws.proofs.GivenLemmas.{about-none}
use Rattle.dp_serve_laws.proofs.JournalLogs.{journal-few, journal-about-none}
use Rattle.dp_serve_laws.proofs.LinkNames.{link-names}
use Rattle.dp_serve_laws.proofs.ClosingLogs.{ClosingLog, closes-log, closes-names, left-both}
use Rattle.dp_serve_laws.proofs.ClosingLogs.{legal-both}
use Rattle.dp_serve_laws.proofs.ServingLemmas.{acts-are, acts-of, conn-given, part-is, run-is}

-- ---- faults

-- a put failed, which was counted, or none did
log-sound : EventsHaveEffects → (old : Past) (log : List LogEntry) → old.first_fault ≡ None
    → IsSessionLog old log
    → HasBroken old (left_by old log) ⊎ ((left_by old log).first_fault ≡ None)
log-sound effects old [] none legal = inr none
log-sound effects old (act ∷ log) none legal =
    by (sound-step effects old act.event act.outcome act.left none legal.0)
    (λ sound. log-sound effects act.left log sound legal.1)
  where
    last : Past
    last = left_by act.left log

    counted : act.left.count ≡ old.count
        → HasBroken act.left last ⊎ (last.first_fault ≡ None)
        → HasBroken old last ⊎ (last.first_fault ≡ None)
    counted same (inl broken) = inl (record {
      count = broken.count;
      fault = broken.fault;
      rose = subst (λ n. Rose n last.count) same broken.rose;
    })
    counted same (inr sound) = inr sound

    by : Sound old act.outcome act.left
        → (act.left.first_fault ≡ None → HasBroken act.left last ⊎ (last.first_fault ≡ None))
        → HasBroken old last ⊎ (last.first_fault ≡ None)
    by (Same fault count other) rest = counted count (rest fault)
    by (First k fault rose) rest =
        let broken = broken-log act.left log k fault legal.1 in
        inl (record {
          count = k;
          fault = broken.0;
          rose = subst (λ n. Rose old.count n) (sym broken.1) rose;
        })

-- ---- rows that aren't known

quieted-unknown : (old : Past) (e : Event) → (quieted old e).known ≡ old.known
quieted-unknown old (event.Open name registered) = refl
quieted-unknown old (event.Say conn m) = refl
quieted-unknown old (event.Close conn) = refl

served-unknown : (old : Past) (e : Event) (answer : Reply) (new : Past) (fault : Option ℕ)
    → old.known ≡ None → Answers fault old e answer new → new.known ≡ None
served-unknown old e answer new (Some first) none h =
    ap (λ (p : Past). p.known) h.after ∙ none
served-unknown old e answer new None none h = by (has_room old.journal e) h
  where
    more : with_row (row_after old e) old.known ≡ None
    more = ap (with_row (row_after old e)) none

    failed : (known : Option (List Row))
        → (known ≡ old.known) ⊎ (known ≡ with_row (row_after old e) old.known) → known ≡ None
    failed known (inl same) = same ∙ none
    failed known (inr row) = row ∙ more

    by : (b : Bool) → MatchBool b (Accepts old e answer new ⊎ FailsFirst old e answer new)
        (Refuses old e reply.Ended answer new) → new.known ≡ None
    by true (inl accepts) = ap (λ (p : Past). p.known) accepts.after ∙ more
    by true (inr fails) =
        ap (λ (p : Past). p.known) fails.after ∙ failed fails.known fails.rows
    by false refuses = ap (λ (p : Past). p.known) refuses.after ∙ none

step-unknown : (old : Past) (e : Event) (outcome : ReplyOrMemory) (new : Past)
    → old.known ≡ None → Step old e outcome new → new.known ≡ None
step-unknown old e (Ok answer) new none h =
    served-unknown old e answer new old.first_fault none h
step-unknown old e (Err error) new none h =
    ap (λ (p : Past). p.known) h ∙ quieted-unknown old e ∙ none

log-unknown : (old : Past) (log : List LogEntry) → old.known ≡ None → IsSessionLog old log
    → (left_by old log).known ≡ None
log-unknown old [] none legal = none
log-unknown old (act ∷ log) none legal =
    log-unknown act.left log (step-unknown old act.event act.outcome act.left none legal.0)
    legal.1

-- ---- lists

-- events before others, with a reply to each
about-both : (conn : ℕ) (xs ys : List Event) (rs ss : List Reply) → length rs ≡ length xs
    → events_about conn (xs ++ ys) (rs ++ ss)
    ≡ events_about conn xs rs ++ events_about conn ys ss
about-both conn [] ys [] ss same = refl
about-both conn [] ys (r ∷ rs) ss same = cc
about-both conn (x ∷ xs) ys [] ss same = cc
about-both conn (x ∷ xs) ys (r ∷ rs) ss same =
    by (is_of conn x (Ok r)) (about-both conn xs ys rs ss (omega (arith, same)))
  where
    by : (b : Bool) → events_about conn (xs ++ ys) (rs ++ ss)
        ≡ events_about conn xs rs ++ events_about conn ys ss
        → (if b then x ∷ events_about conn (xs ++ ys) (rs ++ ss)
        else events_about conn (xs ++ ys) (rs ++ ss))
        ≡ (if b then x ∷ events_about conn xs rs else events_about conn xs rs)
        ++ events_about conn ys ss
    by true rest = ap (λ l. x ∷ l) rest
    by false rest = rest

above-rise : (low : ℕ) (ns : List ℕ) (n : ℕ) → Rise low ns → IsIn n ns → low < n
above-rise low [] n rise within = absurd within
above-rise low (m ∷ ns) n rise (inl same) = omega (arith, rise.0, same)
above-rise low (m ∷ ns) n rise (inr later) =
    omega (arith, rise.0, above-rise m ns n rise.1 later)

in-map : {X Y : Type 0} (f : X → Y) (y : Y) (xs : List X) → IsIn y (map f xs)
    → (x : X) × IsIn x xs × (y ≡ f x)
in-map f y [] h = absurd h
in-map f y (x ∷ xs) (inl e) = (x, inl refl, e)
in-map f y (x ∷ xs) (inr h) = let r = in-map f y xs h in (r.0, inr r.1, r.2)

given-both : (xs ys : List LogEntry) (conn : ℕ) → IsIn conn (given_out ys)
    → IsIn conn (given_out (xs ++ ys))
given-both [] ys conn h = h
given-both (x ∷ xs) ys conn h =
    in_right conn (given_by x.outcome) (given_out (xs ++ ys)) (given-both xs ys conn h)

-- ---- the acts of a session that was served

module _ {W R T : Type 0} (see : Seen W R T) (start : Past) (most : ℕ) (old new : List W)
    (left : Left) (served : Serves see start most old new left) where
  part-names : (P : ℕ → Type 0) (part : Part W R T) → IsIn part served.parts
      → NamesAfter P (acts_of part.runs)
  part-names P part h =
      after-flat P (λ (run : LinkRun R T). run.acts) part.runs (λ run k.
      link-names P (left_by start served.log) run.report.conn run.report.up_end
      run.report.down_end run.acts (see.link run.given) (see.link run.back)
      (run-is see start most old new left served part run h k))

  serves-names : (P : ℕ → Type 0) → NamesAfter P served.log
  serves-names P =
      after-merged P served.log (λ act h.
      let of = in-flat (λ (part : Part W R T). option_to_list part.name) act.by served.parts
      (served.others act h) in
      subst (NamesAfter P)
      (sym (ap (λ n. acts_by n served.log) (sym (option-is act.by of.0.name of.2))
      ∙ acts-are see start most old new left served of.0 of.1))
      (part-names P of.0 of.1))

-- ---- with the closings before

pub resumed-before : (past : Past) → IsResumed past → ShutBefore past
resumed-before past resumed =
    subst (All (λ (s : ShutAt). s.n ≤ length past.journal)) (sym resumed.shut)
    (All-nil (λ (s : ShutAt). s.n ≤ length past.journal))

module _ {W R T : Type 0} (laws : EpochLaws) (see : Seen W R T) (start : Past) (most : ℕ)
    (old new : List W) (left : Left) (on : ServesOn see start most old new left)
    (resumed : IsResumed start) where
  sound : ShutBefore start
  sound = resumed-before start resumed

  closing : ClosingLog start (open_numbers start) on.closed
  closing = closes-log start (open_numbers start) on.refusal on.closed on.closes

  abbrev whole : List LogEntry
  whole = closing.log ++ on.serves.log

  legal : IsSessionLog start whole
  legal =
      legal-both start closing.log on.serves.log closing.legal
      (subst (λ p. IsSessionLog p on.serves.log) (sym closing.left_is) on.serves.legal)

  abbrev last : Past
  last = left_by on.closed on.serves.log

  left-last : left_by start whole ≡ last
  left-last =
      left-both start closing.log on.serves.log
      ∙ ap (λ p. left_by p on.serves.log) closing.left_is

  names : NamesAfter (IsGivenOut start) whole
  names =
      after-both (IsGivenOut start) closing.log on.serves.log
      (closes-names start on.closed closing)
      (serves-names see on.closed most old new on.rest on.serves (IsGivenOut start))

  -- what is left is the last session's
  journal-last : left.journal ≡ last.journal
  journal-last =
      ap (λ (l : Left). l.journal) on.left_is
      ∙ on.serves.journal
      ∙ sym (log-adds laws.effects on.closed on.serves.log on.serves.legal)

  shut-last : left.shut ≡ last.shut
  shut-last = ap (λ (l : Left). l.shut) on.left_is ∙ on.serves.shut

  known-last : left.known ≡ last.known
  known-last = ap (λ (l : Left). l.known) on.left_is ∙ on.serves.known

  count-last : left.count ≡ last.count
  count-last = ap (λ (l : Left). l.count) on.left_is ∙ on.serves.count

  -- ---- rows

  few : (rows : List Row) → AreRowsOf rows start.journal → AreFew start
  few rows are =
      let f = journal-few laws rows start.journal are in
      record {
        connections =
            subst (λ l. length (state_after start.journal l).connections ≤ length start.journal)
            (sym resumed.shut) f.connections;
        events = f.events;
      }

  broken-rose : is_some last.first_fault ≡ true → Rose start.count last.count
  broken-rose broken =
      by (subst (λ p. HasBroken start p ⊎ (p.first_fault ≡ None)) left-last
      (log-sound laws.effects start whole resumed.unbroken legal))
    where
      by : HasBroken start last ⊎ (last.first_fault ≡ None) → Rose start.count last.count
      by (inl put) = put.rose
      by (inr none) = let wrong : false ≡ true = sym (ap (λ o. is_some o) none) ∙ broken in cc

  holds : (known : Option (List Row)) → IfSome known (HoldsJournal last)
      → IfSome known (HoldRows start.count last.count last.journal)
  holds None h = tt
  holds (Some rows) (inl are) = inl are
  holds (Some rows) (inr more) = inr (broken-rose more.0, more.1, more.2)

  pub rows-kept : ((past : Past) → past.shut ≡ []
      → IfSome past.known (λ rows. AreRowsOf rows past.journal) → IsStored past)
      → ((past : Past) (log : List LogEntry) → IsStored past → IsSessionLog past log
      → ArePuttable past log → IsStored (left_by past log))
      → IfSome left.known (HoldRows start.count left.count left.journal)
  rows-kept begun kept =
      subst (λ k. IfSome k (HoldRows start.count left.count left.journal)) (sym known-last)
      (subst (λ n. IfSome last.known (HoldRows start.count n left.journal)) (sym count-last)
      (subst (λ j. IfSome last.known (HoldRows start.count last.count j)) (sym journal-last)
      (by start.known refl)))
    where
      by : (known : Option (List Row)) → start.known ≡ known
          → IfSome last.known (HoldRows start.count last.count last.journal)
      by None is =
          let none : last.known ≡ None =
          sym (ap (λ (p : Past). p.known) left-last) ∙ log-unknown start whole is legal in
          subst (λ k. IfSome k (HoldRows start.count last.count last.journal)) (sym none) tt
      by (Some rows) is =
          let are : AreRowsOf rows start.journal =
          subst (λ k. IfSome k (λ r. AreRowsOf r start.journal)) is resumed.rows in
          let stored : IsStored last =
          subst IsStored left-last
          (kept start whole (begun start resumed.shut resumed.rows) legal
          (log-puttable laws start whole sound (few rows are) legal names)) in
          holds last.known stored.rows

  -- ---- connections

  -- the events of a connection that a report names
  module _ (run : LinkRun R T) (conn : ℕ) (own : IsIn run (runs_of on.serves.parts))
      (is : run.report.conn ≡ Some conn) (answered : length (state_of start).answers
      ≡ length start.journal) (distinct : AreDistinct (given_out on.serves.log))
      (rise : Rise (length (state_of on.closed).connections) (given_out on.serves.log)) where
    given : IsIn conn (given_out on.serves.log)
    given = conn-given see on.closed most old new on.rest on.serves distinct run conn own is

    closing-none : acts_about conn closing.log ≡ []
    closing-none =
        about-none laws conn start closing.log sound closing.legal
        (log-named laws start closing.log sound closing.legal
        (closes-names start on.closed closing))
        (subst (λ (p : Past). length (state_of p).connections < conn) (sym closing.left_is)
        (above-rise (length (state_of on.closed).connections) (given_out on.serves.log) conn rise
        given))

    acts : acts_about conn whole ≡ run.acts
    acts =
        filter-append (is_about conn) closing.log on.serves.log
        ∙ ap (λ l. l ++ acts_about conn on.serves.log) closing-none
        ∙ acts-of see on.closed most old new on.rest on.serves distinct run conn own is

    replies : (state_of last).answers ≡ (state_of start).answers ++ kept_replies whole
    replies =
        ap (λ (p : Past). (state_of p).answers) (sym left-last)
        ∙ log-answers laws start whole sound legal

    journal : last.journal ≡ start.journal ++ kept_events whole
    journal =
        ap (λ (p : Past). p.journal) (sym left-last)
        ∙ log-adds laws.effects start whole legal

    events : events_of conn left.journal left.shut
        ≡ events_of conn start.journal start.shut ++ kept_events run.acts
    events =
        ap (λ j. events_of conn j left.shut) journal-last
        ∙ ap (events_of conn last.journal) shut-last
        ∙ ap (λ j. events_about conn j (state_of last).answers) journal
        ∙ ap (events_about conn (start.journal ++ kept_events whole)) replies
        ∙ about-both conn start.journal (kept_events whole) (state_of start).answers
        (kept_replies whole) answered
        ∙ ap (λ l. events_of conn start.journal start.shut ++ l)
        (kept-about conn whole ∙ ap kept_events acts)

    -- there are none among the rows' own
    none : IfSome start.known (λ rows. events_of conn start.journal start.shut ≡ [])
    none = by start.known resumed.rows
      where
        later : length (state_after start.journal []).connections < conn
        later =
            subst (λ l. length (state_after start.journal l).connections < conn) resumed.shut
            (above-rise (length (state_of start).connections) (given_out whole) conn
            (log-rises laws start whole sound legal)
            (given-both closing.log on.serves.log conn given))

        by : (known : Option (List Row)) → IfSome known (λ rows. AreRowsOf rows start.journal)
            → IfSome known (λ rows. events_of conn start.journal start.shut ≡ [])
        by None are = tt
        by (Some rows) are =
            ap (events_of conn start.journal) resumed.shut
            ∙ journal-about-none laws rows start.journal are conn later

  -- of a report
  module _ (report : LinkReport) (conn : ℕ) (reported : IsIn report left.reports)
      (is : report.conn ≡ Some conn) (answered : length (state_of start).answers
      ≡ length start.journal) (distinct : AreDistinct (given_out on.serves.log))
      (rise : Rise (length (state_of on.closed).connections) (given_out on.serves.log)) where
    found : (part : Part W R T) × IsIn part on.serves.parts
        × IsIn report (map (λ (run : LinkRun R T). run.report) part.runs)
    found =
        in-flat (λ (part : Part W R T). map (λ (run : LinkRun R T). run.report) part.runs) report
        on.serves.parts
        (subst (IsIn report) (ap (λ (l : Left). l.reports) on.left_is ∙ on.serves.reports) reported)

    of : (run : LinkRun R T) × IsIn run found.0.runs × (report ≡ run.report)
    of = in-map (λ (run : LinkRun R T). run.report) report found.0.runs found.2

    pub keeps-acts : KeepsActs see.link start.known report conn left.journal left.shut
    keeps-acts =
        let run = of.0 in
        let part = part-is see on.closed most old new on.rest on.serves found.0 found.1 in
        let went = all-in (IsRun see.link last part.0) found.0.runs run part.1.0.each of.1 in
        let own = flat-in (λ (part : Part W R T). part.runs) run found.0 on.serves.parts found.1
        of.1 in
        let named : run.report.conn ≡ Some conn =
        ap (λ (r : LinkReport). r.conn) (sym of.2) ∙ is in
        record {
          last = last;
          journal_is = sym journal-last;
          shut_is = sym shut-last;
          run = run;
          report_is = sym of.2;
          went =
              subst (λ who. IsRun see.link last who run)
              (sym went.worker ∙ ap (λ (r : LinkReport). r.worker) (sym of.2)) went;
          before = events_of conn start.journal start.shut;
          events = events run conn own named answered distinct rise;
          none = none run conn own named answered distinct rise;
        }
