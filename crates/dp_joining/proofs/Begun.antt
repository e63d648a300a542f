-- What was begun is a first part of what is due.
use Rattle.std.proofs.Common.{◌≡◌, ◌⊎◌, inl, inr, ℕ, ◌+◌, ◌-◌, ◌≤◌, List, [], ◌++◌, length, refl}
use Rattle.std.proofs.Common.{sym, ap, ◌∙◌, subst, arith}
use Rattle.std.specs.Prelude.{Option, None, Some, IfSome}
use Rattle.std.proofs.lemmas.List.{append-nil}
use Rattle.dp_io.specs.Streams.{GrowsByPrefix}
use Rattle.dp_io.proofs.Prefixes.{grows_whole, grows_within}
use Rattle.dp_lines.specs.declared.line.Line.{Line}
use Rattle.dp_lines.specs.declared.run_end.RunEnd.{RunEnd}
use Rattle.dp_lines.specs.declared.run_end.RunEnd.TheVariants as run
use Rattle.dp_lines.specs.Ends.{AreSteps, LinesEnd, seen}
use Rattle.dp_lines.specs.Ends as ends
use Rattle.dp_lines.specs.Held.{IsLeft}
use Rattle.dp_lines.specs.Lines.{Lacks, ended, newline, numbered, open_rest}
use Rattle.dp_lines.proofs.Seen.{given_seen}
use Rattle.dp_msg_draw.specs.declared.draw.Draw.{Draw}
use Rattle.dp_messages.specs.declared.message.Entry.{Entry}
use Rattle.dp_pixels.specs.Feet.{reach}
use Rattle.dp_schedule.specs.declared.join_action.JoinAction.{JoinAction}
use Rattle.dp_screen.proofs.Leads.{counts_first}
use Rattle.dp_line_machine.specs.Counters.{Counters}
use Rattle.dp_line_machine.specs.Leaves.{AreFirstOf}
use Rattle.dp_line_machine.specs.Limits.{lines_limit}
use Rattle.dp_join_link.specs.declared.stops.LinkCause.{LinkCause}
use Rattle.dp_joiner.specs.Joining.{Joining, Progress, Goes, Waits, came_to, joined}
use Rattle.dp_join_link.specs.Sent.{farewell_bytes}
use Rattle.dp_joining.specs.Leaves.{BeginsDue, GrowsTowards, IsParting, JoinLeaves, Traffic}
use Rattle.dp_joining.specs.Leaves.{WhereKnown, WritesAll, WritesPart, WritesTaken, DrawsFew}
use Rattle.dp_join_link.specs.Links.{BeginsWith}
use Rattle.dp_joining.specs.Outcomes.{AllAsk, EndsByLink, EndsByScript, IsJoinStep, JoinComesTo}
use Rattle.dp_joining.specs.Outcomes.{JoinOutcome, script_outcome}
use Rattle.dp_joining.proofs.Leaving.{Writes}
use Rattle.dp_joiner.proofs.LinkEnds.{IsClosed, IsEnded, ends_by}
use Rattle.dp_joining.proofs.OneOutcome.{AllLaws, asked_alike, first_within, lists_alike}
use Rattle.dp_joining.proofs.OneOutcome.{one_outcome}
use Rattle.dp_join_link.proofs.Prefixes.{IsFirstOf, begin_alike, within_all}
use Rattle.dp_joiner.proofs.Unique.{joined_closed, joined_goes, joined_waits}
use Rattle.dp_joiner.proofs.GoingOn.{GoesOn, first_self, first_then, first_twice, joined_within}

-- ---- first parts

-- a prefix of the first part is a prefix of all
grows_first : (a b : Option (List ℕ)) (xs ys : List ℕ) → IsFirstOf xs ys → GrowsByPrefix a b xs
    → GrowsByPrefix a b ys
grows_first a b xs ys first grows =
    subst (GrowsByPrefix a b) (sym first.whole) (grows_within a b xs first.rest grows)

draws_first : (c : Counters) (first all : List Draw) → IsFirstOf first all → DrawsFew c first
    → DrawsFew c all
draws_first c first all is few =
    subst (DrawsFew c) (sym is.whole)
    (counts_first reach first is.rest c.draws c.draws_now c.tiles c.tiles_now few)

-- ---- towards what is due

-- towards what a script and a link come to
pub record Towards (j : Joining) (outcome : JoinOutcome) : Type 0 where
  pub text : IsFirstOf j.text outcome.text
  pub written : IsFirstOf j.written outcome.written
  pub due : IsFirstOf j.due outcome.due

by_script : (j k : Joining) (last : LinesEnd) → GoesOn j k → Towards j (script_outcome last k)
by_script j k ends.AllDone on = record {
  text = on.text;
  written =
      first_twice j.written k.written (k.written ++ farewell_bytes k.client.user) on.written
      (first_then k.written (farewell_bytes k.client.user));
  due = on.due;
}
by_script j k (ends.BadLine n) on =
    record { text = on.text; written = on.written; due = on.due }
by_script j k ends.TooLong on = record { text = on.text; written = on.written; due = on.due }

module _ (laws : AllLaws) (name link : List ℕ) where
  -- if all lines are done over these entries
  towards_goes : (actions others : List JoinAction) (es ds : List Entry) (j : Joining)
      (left : List Entry) → IsFirstOf actions others → BeginsWith link es → BeginsWith link ds
      → joined name others ds ≡ Goes j left → GoesOn (came_to (joined name actions es)) j
  towards_goes actions others es ds j left acts begins begins_too goes =
      elim (begin_alike laws.link.frames link es ds begins begins_too) [
        | inl first ↦ joined_within name actions others es ds (Goes j left) acts first goes
        | inr first ↦
            let further = joined_goes name others ds es j left first goes in
            joined_within name actions others es es (Goes j further.0) acts (first_self es)
            further.1
      ]

  -- if lines wait at an end of the link
  towards_waits : (actions others : List JoinAction) (es ds : List Entry) (waiting : Joining)
      (why : LinkCause) → IsFirstOf actions others → BeginsWith link es
      → IsClosed link ds why ⊎ IsEnded link ds why → joined name others ds ≡ Waits waiting
      → GoesOn (came_to (joined name actions es)) waiting
  towards_waits actions others es ds waiting why acts begins (inl a) waits =
      elim (begin_alike laws.link.frames link es ds begins a.begins) [
        | inl first ↦ joined_within name actions others es ds (Waits waiting) acts first waits
        | inr first ↦ joined_within name actions others es es (Waits waiting) acts (first_self es)
            (joined_closed name others ds es a.closed first ∙ waits)
      ]
  towards_waits actions others es ds waiting why acts begins (inr a) waits =
      joined_within name actions others es ds (Waits waiting) acts
      (within_all laws.link.frames link es ds a.end begins a.comes) waits

  module _ (input : List ℕ) (begun : List Line) (actions : List JoinAction) (es : List Entry)
      (prefix : AreFirstOf IsJoinStep (seen lines_limit input) begun) (asked : AllAsk begun actions)
      (begins : BeginsWith link es) where
    towards_script : (outcome : JoinOutcome) → EndsByScript name input link outcome
        → Towards (came_to (joined name actions es)) outcome
    towards_script outcome y =
        let acts = asked_alike laws begun y.done actions y.actions
        (first_within input begun y.done y.last prefix y.comes) asked y.asked in
        subst (Towards (came_to (joined name actions es))) (sym y.outcome_is)
        (by_script (came_to (joined name actions es)) y.joining y.last
        (towards_goes actions y.actions es y.entries y.joining y.left acts begins y.begins y.goes))

    towards_link : (outcome : JoinOutcome) → EndsByLink name input link outcome
        → Towards (came_to (joined name actions es)) outcome
    towards_link outcome y =
        let ended = ends_by link y.entries y.why y.ends in
        let on : GoesOn (came_to (joined name actions es)) y.waiting =
        elim (lists_alike begun y.begun prefix.after y.prefix.after
        (sym prefix.parts ∙ y.prefix.parts)) [
          | inl first ↦ towards_waits actions y.actions es y.entries y.waiting y.why
              (asked_alike laws begun y.begun actions y.actions first asked y.asked) begins ended
              y.waits
          | inr first ↦
              let acts = asked_alike laws y.begun begun y.actions actions first y.asked asked in
              towards_waits actions actions es y.entries y.waiting y.why (first_self actions) begins
              ended
              (ap (λ (xs : List JoinAction). joined name xs y.entries) acts.whole
              ∙ joined_waits name y.actions acts.rest y.entries y.waiting y.waits)
        ] in
        subst (Towards (came_to (joined name actions es))) (sym y.outcome_is)
        (record { text = on.text; written = on.written; due = on.due })

    towards : (outcome : JoinOutcome) → JoinComesTo name input link outcome
        → Towards (came_to (joined name actions es)) outcome
    towards outcome (inl y) = towards_script outcome y
    towards outcome (inr y) = towards_link outcome y

  -- ---- what a run leaves

  -- prefixes of what the client has come to
  toward_due : (t : Traffic) (j : Joining) (outcome : JoinOutcome) → Towards j outcome
      → GrowsByPrefix t.print_old t.print_now j.text
      → GrowsByPrefix t.sent_old t.sent_now j.written → DrawsFew t.counters j.due
      → GrowsTowards t outcome
  toward_due t j outcome on text written few = (
    grows_first t.print_old t.print_now j.text outcome.text on.text text,
    grows_first t.sent_old t.sent_now j.written outcome.written on.written written,
    draws_first t.counters j.due outcome.due on.due few,
  )

  part_by : (t : Traffic) (input : List ℕ) (x : WritesPart name t input link)
      (outcome : JoinOutcome) → JoinComesTo name input link outcome
      → IsParting input x.begun (joined name x.actions x.entries) x.parting
      → GrowsTowards t outcome
  part_by t input x outcome comes (inl none) =
      let j = came_to (joined name x.actions x.entries) in
      toward_due t j outcome
      (towards input x.begun x.actions x.entries x.prefix x.asked x.begins outcome comes) x.text
      (subst (GrowsByPrefix t.sent_old t.sent_now)
      (ap (λ (p : List ℕ). j.written ++ p) none ∙ append-nil j.written) x.written) x.counts
  part_by t input x outcome comes (inr (all, k, left, goes, is)) =
      let whole : EndsByScript name input link (script_outcome ends.AllDone k) = record {
        done = x.begun;
        last = ends.AllDone;
        comes = all;
        actions = x.actions;
        asked = x.asked;
        entries = x.entries;
        begins = x.begins;
        joining = k;
        left = left;
        goes = goes;
        outcome_is = refl;
      } in
      let same : script_outcome ends.AllDone k ≡ outcome =
      one_outcome laws name input link (script_outcome ends.AllDone k) outcome (inl whole) comes in
      let here : came_to (joined name x.actions x.entries) ≡ k = ap came_to goes in (
        subst (GrowsByPrefix t.print_old t.print_now)
            (ap (λ (i : Joining). i.text) here ∙ ap (λ (o : JoinOutcome). o.text) same) x.text,
        subst (GrowsByPrefix t.sent_old t.sent_now)
            (ap (λ (i : Joining). i.written ++ x.parting) here
            ∙ ap (λ (p : List ℕ). k.written ++ p) is
            ∙ ap (λ (o : JoinOutcome). o.written) same) x.written,
        subst (DrawsFew t.counters)
            (ap (λ (i : Joining). i.due) here ∙ ap (λ (o : JoinOutcome). o.due) same) x.counts,
      )

  part_due : (t : Traffic) (input : List ℕ) → WritesPart name t input link
      → BeginsDue name t input link
  part_due t input x outcome comes = part_by t input x outcome comes x.is_parting

  all_due : (t : Traffic) (input : List ℕ) (end : RunEnd) → Writes name t end input link
      → BeginsDue name t input link
  all_due t input end (other, comes, is, text, written, few) outcome due =
      subst (GrowsTowards t)
      (one_outcome laws name input link other outcome comes due) (
        grows_whole t.print_old t.print_now other.text text,
        grows_whole t.sent_old t.sent_now other.written written,
        few,
      )

-- ---- the lines that are whole in what was taken

-- of a rest no line is whole
pub record OpenRest : Type 0 where
  pub lacks : (bytes : List ℕ) → Lacks newline (open_rest bytes)
  pub only : (rest : List ℕ) → Lacks newline rest → (ended rest ≡ []) × (open_rest rest ≡ rest)

-- they are the first of all
taken_first : OpenRest → (taken untaken : List ℕ) → length taken ≤ lines_limit
    → (after : List Line)
    × (seen lines_limit (taken ++ untaken) ≡ numbered 0 (ended taken) ++ after)
taken_first open_ taken untaken counts =
    let rest = open_.only (open_rest taken) (open_.lacks taken) in
    let count = length (ended taken) in
    let left : IsLeft taken (numbered 0 (ended taken))
    (record { count = count; bytes = open_rest taken; fed = length taken }) = record {
      whole = sym (append-nil (numbered 0 (ended taken)))
          ∙ ap (λ (ls : List (List ℕ)). numbered 0 (ended taken) ++ numbered count ls) (sym rest.0);
      rest = sym rest.1;
      count = omega (arith, ap length rest.0);
      fed = refl;
    } in
    given_seen lines_limit taken untaken (numbered 0 (ended taken)) _ left counts

taken_part : OpenRest → (name : List ℕ) (t : Traffic) (input link : List ℕ)
    → WritesTaken name t input link → WritesPart name t input link
taken_part open_ name t input link x =
    let taken = x.took.taken in
    let untaken = x.took.after ++ x.took.untaken in
    let first = taken_first open_ taken untaken x.took.meets.quiet.counts in
    let joins = joined name x.actions x.entries in
    record {
      begun = x.done;
      prefix = record {
        after = first.0;
        parts =
            ap (seen lines_limit) x.took.whole ∙ first.1
            ∙ ap (λ (ls : List Line). ls ++ first.0) (sym x.took.meets.lines);
        steps = subst (λ (ls : List Line). AreSteps IsJoinStep ls) (sym x.took.meets.lines)
            x.took.meets.quiet.steps;
      };
      actions = x.actions;
      asked = x.asked;
      entries = x.entries;
      begins = x.begins;
      text =
          subst (λ (p : Progress). GrowsByPrefix t.print_old t.print_now (came_to p).text)
          (sym x.goes) (grows_whole t.print_old t.print_now x.joining.text x.text);
      parting = [];
      is_parting = inl refl;
      written =
          subst (λ (p : Progress). GrowsByPrefix t.sent_old t.sent_now ((came_to p).written ++ []))
          (sym x.goes)
          (subst (GrowsByPrefix t.sent_old t.sent_now) (sym (append-nil x.joining.written))
          (grows_whole t.sent_old t.sent_now x.joining.written x.written));
      counts =
          subst (λ (p : Progress). DrawsFew t.counters (came_to p).due) (sym x.goes) x.counts;
    }

where_both : (input link : Option (List ℕ)) (P Q : List ℕ → List ℕ → Type 0)
    → ((i l : List ℕ) → P i l → Q i l) → IfSome input (λ i. IfSome link (λ l. P i l))
    → IfSome input (λ i. IfSome link (λ l. Q i l))
where_both None link P Q more holds = tt
where_both (Some i) None P Q more holds = tt
where_both (Some i) (Some l) P Q more holds = more i l holds

module _ (laws : AllLaws) (open_ : OpenRest) (name : List ℕ) (t : Traffic) where
  all_begun : (end : RunEnd) → WritesAll name t end → WhereKnown t (BeginsDue name t)
  all_begun end all =
      where_both t.input t.link _ (BeginsDue name t) (λ i l h. all_due laws name l t i end h) all

  part_begun : WhereKnown t (WritesPart name t) → WhereKnown t (BeginsDue name t)
  part_begun part =
      where_both t.input t.link (WritesPart name t) (BeginsDue name t)
      (λ i l h. part_due laws name l t i h) part

  -- however the run ends
  pub begun_due : (end : RunEnd) → JoinLeaves name t end → WhereKnown t (BeginsDue name t)
  begun_due run.Done h = all_begun run.Done h.1
  begun_due run.ReadFault h =
      part_begun (where_both t.input t.link (WritesTaken name t) (WritesPart name t)
      (λ i l x. taken_part open_ name t i l x) h)
  begun_due run.WriteFault h = part_begun h
  begun_due run.LinkFault h = part_begun h
  begun_due run.Memory h = part_begun h
  begun_due (run.Truncated n) h = absurd h
  begun_due run.BadHeader h = absurd h
  begun_due other h = all_begun other h
