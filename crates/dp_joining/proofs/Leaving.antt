-- What a run leaves, from what its lines do.
use Rattle.std.proofs.Common.{◌≡◌, inl, inr, ℕ, ◌≤◌, List, [], ◌∷◌, ◌++◌, refl, sym, ap, ◌∙◌, subst}
use Rattle.std.proofs.Common.{append_assoc, arith}
use Rattle.std.specs.Prelude.{Option, Some, None, IfSome}
use Rattle.std.specs.Option.{option_map_or}
use Rattle.std.specs.Io.KnownBytes.{Appends, IsAtEnd}
use Rattle.std.proofs.KnownBytes.{Appends-nil, Appends-trans}
use Rattle.std.proofs.lemmas.List.{append-nil}
use Rattle.dp_client.specs.Client.{State}
use Rattle.dp_io.specs.Faults.{Rose}
use Rattle.dp_io.specs.Streams.{GrowsByPrefix}
use Rattle.dp_io.proofs.Prefixes.{grows_after, grows_whole}
use Rattle.dp_lines.specs.declared.line.Line.{Line}
use Rattle.dp_lines.specs.declared.run_end.RunEnd.{RunEnd}
use Rattle.dp_lines.specs.declared.run_end.RunEnd.TheVariants as run
use Rattle.dp_lines.specs.Ends.{AreSteps, IsDoable, LinesComeTo, LinesEnd, seen}
use Rattle.dp_lines.specs.Ends as ends
use Rattle.dp_messages.specs.declared.message.Entry.{Entry}
use Rattle.dp_schedule.specs.declared.join_action.JoinAction.{JoinAction}
use Rattle.dp_line_machine.specs.declared.machine.ScriptEnd.{ScriptEnd}
use Rattle.dp_line_machine.specs.declared.machine.ScriptEnd.TheVariants.{Done, BadLine, ReadFault}
use Rattle.dp_line_machine.specs.declared.machine.ScriptEnd.TheVariants.{Long, Memory, Ended}
use Rattle.dp_line_machine.specs.Counters.{Counters, counters}
use Rattle.dp_line_machine.specs.Ends.{FaultMatchesInput}
use Rattle.dp_line_machine.specs.Leaves.{HoldsLines, AreFirstOf, IsNextOf, ScriptLeaves}
use Rattle.dp_line_machine.specs.Moments.{Moment}
use Rattle.dp_lines.specs.TakenParts.{TookWithin}
use Rattle.dp_join_link.specs.declared.stops.JoinStop.{JoinStop}
use Rattle.dp_join_link.specs.declared.stops.JoinStop.TheVariants as stop
use Rattle.dp_join_link.specs.declared.stops.LinkCause.{LinkCause}
use Rattle.dp_join_link.specs.declared.stops.LinkCause.TheVariants as cause
use Rattle.dp_joiner.specs.Joining.{Joining, Goes, Waits, along, came_to, caller, greeted, joined}
use Rattle.dp_joiner.specs.Joining.{newcomer}
use Rattle.dp_join_link.specs.Sent.{farewell_bytes}
use Rattle.dp_join_link.specs.Given.{takeable}
use Rattle.dp_joining.specs.Leaves.{FaultMatchesJoin, Counts, IsParting, IsWelcome, JoinLeaves}
use Rattle.dp_joining.specs.Leaves.{OthersStay, Traffic, WritesAll, WritesPart, WritesTaken}
use Rattle.dp_joining.specs.Leaves.{WhereKnown, DrawsFew}
use Rattle.dp_join_link.specs.Links.{BeginsWith, link_end}
use Rattle.dp_joining.specs.Outcomes.{IsJoinStep, JoinComesTo, JoinOutcome, link_outcome}
use Rattle.dp_joining.specs.Outcomes.{script_outcome}
use Rattle.dp_line_machine.specs.Limits.{lines_limit}
use Rattle.dp_joiner.specs.Partings.{SaysFarewell}
use Rattle.dp_joining.specs.Partings.{IsSilent, TakesLeave}
use Rattle.dp_joining.specs.Scripts.{GoesTo, HasDone, HasEnded, IsBegun, StopsAlong, at}
use Rattle.dp_joiner.specs.Steps.{Began, FaultMatchesStop, IsFaultless, Seen, Wrote}
use Rattle.dp_join_link.specs.Reading.{HasGiven, Shows}
use Rattle.dp_join_link.specs.Stops.{end_of}
use Rattle.dp_joiner.proofs.Moving.{grows_not}
use Rattle.dp_join_link.proofs.Reading.{given_begins}

-- steps with a doable line after them are steps
abbrev pub FurtherStep : Type 0
FurtherStep = (done : List Line) (line : Line) → AreSteps IsJoinStep done
    → IsDoable IsJoinStep done line → AreSteps IsJoinStep (done ++ line ∷ [])

-- the counters at the start, and now
abbrev counters_at : Seen → Seen → Counters
counters_at start now = counters start.draws now.draws start.tiles now.tiles

-- what a script and a link come to was written
abbrev pub Writes : List ℕ → Traffic → RunEnd → List ℕ → List ℕ → Type 0
Writes name t end input link =
    (outcome : JoinOutcome) × JoinComesTo name input link outcome × (outcome.end ≡ end)
    × Appends t.print_old t.print_now outcome.text × Appends t.sent_old t.sent_now outcome.written
    × DrawsFew t.counters outcome.due

pub link_leaves : (name : List ℕ) (t : Traffic) (why : LinkCause) → WritesAll name t (link_end why)
    → JoinLeaves name t (link_end why)
link_leaves name t cause.Closed all = all
link_leaves name t (cause.BadMessage n) all = all
link_leaves name t cause.Long all = all

pub link_fault : (old now : Counts) (why : LinkCause) → now.input ≡ old.input → OthersStay old now
    → FaultMatchesJoin old now (link_end why)
link_fault old now cause.Closed same others = (same, others)
link_fault old now (cause.BadMessage n) same others = (same, others)
link_fault old now cause.Long same others = (same, others)

-- what the client does after the welcome
joined_from : (name : List ℕ) (client : State) (welcome : Entry) (actions : List JoinAction)
    (given : List Entry) → greeted name welcome.msg ≡ Some (newcomer client name)
    → joined name actions (welcome ∷ given) ≡ along actions (takeable given) (newcomer client name)
joined_from name client welcome actions given greets =
    ap (λ o. option_map_or (λ j. along actions (takeable given) j) o (Waits (caller name))) greets

-- ---- what is known

-- if both are known
when_known : (input link : Option (List ℕ)) (P : List ℕ → List ℕ → Type 0)
    → ((i l : List ℕ) → input ≡ Some i → link ≡ Some l → P i l)
    → IfSome input (λ i. IfSome link (λ l. P i l))
when_known None link P holds = tt
when_known (Some i) None P holds = tt
when_known (Some i) (Some l) P holds = holds i l refl refl

-- what is said of bytes that are known
said_of : (P : List ℕ → Type 0) (o : Option (List ℕ)) (bytes : List ℕ) → o ≡ Some bytes
    → IfSome o P → P bytes
said_of P o bytes is holds = subst (λ x. IfSome x P) is holds

-- ---- lines that are the first

-- lines that are all done are the first
first_of_all : (input : List ℕ) (done : List Line)
    → LinesComeTo IsJoinStep lines_limit input done ends.AllDone
    → AreFirstOf IsJoinStep (seen lines_limit input) done
first_of_all input done comes = record {
  after = [];
  parts = sym comes.1 ∙ sym (append-nil done);
  steps = comes.2;
}

-- the lines that were begun are the first
first_of_begun : FurtherStep → (input : List ℕ) (done : List Line) (line : Line)
    (begun : List Line) → IsBegun done line begun
    → IsNextOf IsJoinStep (seen lines_limit input) done line
    → AreFirstOf IsJoinStep (seen lines_limit input) begun
first_of_begun further input done line begun (inl is) next =
    subst (AreFirstOf IsJoinStep (seen lines_limit input)) (sym is)
    (record { after = line ∷ next.after; parts = next.parts; steps = next.steps })
first_of_begun further input done line begun (inr (is, step)) next =
    subst (AreFirstOf IsJoinStep (seen lines_limit input)) (sym is) (record {
      after = next.after;
      parts = next.parts ∙ sym (append_assoc done (line ∷ []) next.after);
      steps = further done line next.steps (record { fits = next.fits; step = step });
    })

module _ {M O : Type 0} (see : M → O → ℕ → ℕ → Seen) (name : List ℕ) (first : Seen)
    (welcome : Entry) (start now : Moment M O ℕ ℕ) (input left link : Option (List ℕ))
    (is : IsWelcome name link first (at see start) welcome) where
  abbrev last : Seen
  last = at see now

  -- what the run sees if the link's sink holds this after it
  abbrev over : Option (List ℕ) → Traffic
  over sent = record {
    input = input;
    left = left;
    link = link;
    print_old = first.printed;
    print_now = last.printed;
    sent_old = first.written;
    sent_now = sent;
    counters = counters_at first last;
  }

  welcomed : (bytes : List ℕ) → link ≡ Some bytes
      → HasGiven (at see start).source bytes (welcome ∷ [])
  welcomed bytes known =
      said_of (λ b. HasGiven (at see start).source b (welcome ∷ [])) link bytes known is.has_given

  -- how far the lines went that are done
  goes_of : (done : List Line) (has : HasDone see start done now)
      → GoesTo first last (joined name has.actions (welcome ∷ has.given))
  goes_of done has =
      let go = has.goes first (newcomer (at see start).client name) is.stands in
      record {
        joining = go.joining;
        goes = joined_from name (at see start).client welcome has.actions has.given is.greets
            ∙ go.goes;
        stands = go.stands;
      }

  -- how far the next line went
  stops_of : (done : List Line) (line : Line) (why : JoinStop)
      (has : HasEnded see start done line now why)
      → StopsAlong first last (joined name has.actions (welcome ∷ has.given)) why
  stops_of done line why has =
      subst (λ p. StopsAlong first last p why)
      (sym (joined_from name (at see start).client welcome has.actions has.given is.greets))
      (has.stops first (newcomer (at see start).client name) is.stands)

  -- the link's bytes begin with the entries that were given
  begins_of : (bytes : List ℕ) (done : List Line) → link ≡ Some bytes
      → (has : HasDone see start done now) → BeginsWith bytes (welcome ∷ has.given)
  begins_of bytes done known has =
      given_begins last.source bytes (welcome ∷ has.given) has.reads.readable
      (has.reads.more bytes (welcome ∷ []) (welcomed bytes known))

  -- ---- what was printed and written

  -- the lines are done, and more may be written to the link
  all_of : (sent : Option (List ℕ)) (done : List Line) (end : LinesEnd) (more : List ℕ)
      (due : RunEnd) → HasDone see start done now
      → IfSome input (λ bytes. LinesComeTo IsJoinStep lines_limit bytes done end)
      → Appends last.written sent more
      → ((j : Joining) → last.client ≡ j.client → script_outcome end j
      ≡ record { text = j.text; written = j.written ++ more; due = j.due; end = due })
      → WritesAll name (over sent) due
  all_of sent done end more due has comes writes outcome =
      when_known input link (Writes name (over sent) due) (λ i l input_is link_is.
      let go = goes_of done has in
      let j = go.joining in (
        record { text = j.text; written = j.written ++ more; due = j.due; end = due },
        inl (record {
          done = done;
          last = end;
          comes =
              said_of (λ b. LinesComeTo IsJoinStep lines_limit b done end) input i input_is comes;
          actions = has.actions;
          asked = has.asked;
          entries = welcome ∷ has.given;
          begins = begins_of l done link_is has;
          joining = j;
          left = [];
          goes = go.goes;
          outcome_is = sym (outcome j go.stands.client);
        }),
        refl,
        go.stands.text,
        Appends-trans first.written last.written sent j.written more go.stands.written writes,
        go.stands.counts,
      ))

  -- a script that ends before its end leaves nothing to be written
  silent_all : (done : List Line) (end : LinesEnd) (due : RunEnd) → HasDone see start done now
      → IfSome input (λ bytes. LinesComeTo IsJoinStep lines_limit bytes done end)
      → ((j : Joining) → script_outcome end j
      ≡ record { text = j.text; written = j.written; due = j.due; end = due })
      → WritesAll name (over last.written) due
  silent_all done end due has comes outcome =
      all_of last.written done end [] due has comes (Appends-nil last.written) (λ j client.
      outcome j ∙ ap (λ w. record { text = j.text; written = w; due = j.due; end = due })
      (sym (append-nil j.written)))

  -- some of it was written
  some_of : (sent : Option (List ℕ)) (done : List Line) (P : List ℕ → Type 0)
      → ((i : List ℕ) → P i → AreFirstOf IsJoinStep (seen lines_limit i) done)
      → (parting : List ℕ) → HasDone see start done now → IfSome input P
      → ((i : List ℕ) (j : Joining) → P i → last.client ≡ j.client
      → IsParting i done (Goes j []) parting)
      → GrowsByPrefix last.written sent parting
      → WhereKnown (over sent) (WritesPart name (over sent))
  some_of sent done P prefix parting has holds parts writes =
      when_known input link (WritesPart name (over sent)) (λ i l input_is link_is.
      let here : P i = said_of P input i input_is holds in
      let go = goes_of done has in
      let j = go.joining in record {
        begun = done;
        prefix = prefix i here;
        actions = has.actions;
        asked = has.asked;
        entries = welcome ∷ has.given;
        begins = begins_of l done link_is has;
        text =
            subst (λ w. GrowsByPrefix first.printed last.printed (came_to w).text) (sym go.goes)
            (grows_whole first.printed last.printed j.text go.stands.text);
        parting = parting;
        is_parting =
            subst (λ w. IsParting i done w parting) (sym go.goes) (parts i j here go.stands.client);
        written =
            subst (λ w. GrowsByPrefix first.written sent ((came_to w).written ++ parting))
            (sym go.goes)
            (grows_after first.written last.written sent j.written parting go.stands.written
            writes);
        counts =
            subst (λ w. DrawsFew (counters_at first last) (came_to w).due) (sym go.goes)
            go.stands.counts;
      })

  -- the client says that it leaves
  says_farewell : (sent : Option (List ℕ)) (done : List Line) (before after : ℕ) (end : RunEnd)
      → IsAtEnd left → HasDone see start done now
      → IfSome input (λ bytes. LinesComeTo IsJoinStep lines_limit bytes done ends.AllDone)
      → SaysFarewell last.written sent before after last.client.user end
      → JoinLeaves name (over sent) end
  says_farewell sent done before after end at_end has comes says = by says
    where
      cut : GrowsByPrefix last.written sent (farewell_bytes last.client.user)
          → WhereKnown (over sent) (WritesPart name (over sent))
      cut writes =
          some_of sent done (λ b. LinesComeTo IsJoinStep lines_limit b done ends.AllDone)
          (λ i. first_of_all i done) (farewell_bytes last.client.user) has comes
          (λ i j all client. inr (all, j, [], refl, ap (λ c. farewell_bytes c.user) client)) writes

      by : SaysFarewell last.written sent before after last.client.user end
          → JoinLeaves name (over sent) end
      by (inl (end_is, writes, kept)) =
          subst (JoinLeaves name (over sent)) (sym end_is) (
            at_end,
            all_of sent done ends.AllDone (farewell_bytes last.client.user) run.Done has comes
                writes (λ j client.
                ap (λ c. record {
                  text = j.text;
                  written = j.written ++ farewell_bytes c.user;
                  due = j.due;
                  end = run.Done;
                }) (sym client)),
          )
      by (inr (inl (end_is, writes, rose, later))) =
          subst (JoinLeaves name (over sent)) (sym end_is) (cut writes)
      by (inr (inr (end_is, writes, kept))) =
          subst (JoinLeaves name (over sent)) (sym end_is) (cut writes)

  -- the next line was stopped
  module _ (further : FurtherStep) (done : List Line) (line : Line)
      (next : IfSome input (λ bytes. IsNextOf IsJoinStep (seen lines_limit bytes) done line)) where
    begun_first : (i : List ℕ) (begun : List Line) → input ≡ Some i → IsBegun done line begun
        → AreFirstOf IsJoinStep (seen lines_limit i) begun
    begun_first i begun known is_begun =
        first_of_begun further i done line begun is_begun
        (said_of (λ b. IsNextOf IsJoinStep (seen lines_limit b) done line) input i known next)

    stopped_part : (why : JoinStop) (has : HasEnded see start done line now why)
        → ((bytes : List ℕ) (es : List Entry) → Shows bytes es why → BeginsWith bytes es)
        → ((text written : List ℕ) → Wrote first last text written why
        → Began first last text written)
        → WhereKnown (over last.written) (WritesPart name (over last.written))
    stopped_part why has begins began_of =
        when_known input link (WritesPart name (over last.written)) (λ i l input_is link_is.
        let stops = (stops_of done line why has).stops in
        let began = began_of _ _ stops.wrote in record {
          begun = has.begun;
          prefix = begun_first i has.begun input_is has.is_begun;
          actions = has.actions;
          asked = has.asked;
          entries = welcome ∷ has.given;
          begins = begins l _ (has.reads l (welcome ∷ []) (welcomed l link_is) is.still);
          text = began.printed;
          parting = [];
          is_parting = inl refl;
          written =
              subst (GrowsByPrefix first.written last.written) (sym (append-nil _)) began.sent;
          counts = stops.counts;
        })

    -- the link gave no entry more
    stopped_all : (why : LinkCause) → HasEnded see start done line now (stop.NoEntry why)
        → WritesAll name (over last.written) (link_end why)
    stopped_all why has =
        when_known input link (Writes name (over last.written) (link_end why))
        (λ i l input_is link_is.
        let progress = joined name has.actions (welcome ∷ has.given) in
        let stops = stops_of done line (stop.NoEntry why) has in (
          link_outcome why (came_to progress),
          inr (record {
            begun = has.begun;
            prefix = begun_first i has.begun input_is has.is_begun;
            actions = has.actions;
            asked = has.asked;
            entries = welcome ∷ has.given;
            waiting = came_to progress;
            waits = stops.waits tt;
            why = why;
            ends = has.reads l (welcome ∷ []) (welcomed l link_is) is.still;
            outcome_is = refl;
          }),
          refl,
          stops.stops.wrote.0,
          stops.stops.wrote.1,
          stops.stops.counts,
        ))

    stopped : (why : JoinStop) → HasEnded see start done line now why
        → JoinLeaves name (over last.written) (end_of why)
    stopped (stop.NoEntry why) has = link_leaves name (over last.written) why (stopped_all why has)
    stopped other has = stopped_part other has (λ b es shows. shows) (λ t w wrote. wrote)

  -- nothing more was written
  silent : (sent : Option (List ℕ)) (before after : ℕ) (due end : RunEnd)
      → IsSilent last.written sent before after due end
      → JoinLeaves name (over last.written) due → JoinLeaves name (over sent) end
  silent sent before after due end parts leaves =
      subst (JoinLeaves name (over sent)) (sym parts.end_is)
      (subst (λ s. JoinLeaves name (over s) due) (sym parts.bytes) leaves)

  pub leaves_of : FurtherStep → (sent : Option (List ℕ)) (ended : ScriptEnd JoinStop)
      (before after : ℕ) (end : RunEnd)
      → ScriptLeaves IsJoinStep (HasDone see) (HasEnded see) lines_limit input left start now ended
      → TakesLeave last.written sent before after last.client.user ended end
      → JoinLeaves name (over sent) end
  leaves_of further sent Done before after end (at_end, done, has, comes) parts =
      says_farewell sent done before after end at_end has comes parts
  leaves_of further sent (BadLine n) before after end (done, has, comes) parts =
      silent sent before after (run.BadLine n) end parts
      (silent_all done (ends.BadLine n) (run.BadLine n) has comes (λ j. refl))
  leaves_of further sent ReadFault before after end (done, has, took) parts =
      silent sent before after run.ReadFault end parts
      (when_known input link (WritesTaken name (over last.written)) (λ i l input_is link_is.
      let go = goes_of done has in record {
        done = done;
        took =
            said_of (λ b. TookWithin (HoldsLines IsJoinStep lines_limit done) 0 b left) input i
            input_is took;
        actions = has.actions;
        asked = has.asked;
        entries = welcome ∷ has.given;
        begins = begins_of l done link_is has;
        joining = go.joining;
        goes = go.goes;
        text = go.stands.text;
        written = go.stands.written;
        counts = go.stands.counts;
      }))
  leaves_of further sent Long before after end (done, has, comes) parts =
      silent sent before after run.Long end parts
      (silent_all done ends.TooLong run.Long has comes (λ j. refl))
  leaves_of further sent Memory before after end (done, has, prefix) parts =
      silent sent before after run.Memory end parts
      (some_of last.written done (λ b. AreFirstOf IsJoinStep (seen lines_limit b) done) (λ i f. f)
      [] has prefix (λ i j f client. inl refl) (grows_not last.written []))
  leaves_of further sent (Ended why) before after end (done, line, has, next) parts =
      silent sent before after (end_of why) end parts (stopped further done line next why has)

  -- ---- counts of faults

  faultless : (done : List Line) → HasDone see start done now → IsFaultless first last
  faultless done has = (goes_of done has).stands.faultless

  -- which counts have changed after the lines
  abbrev FaultsAfter : ScriptEnd JoinStop → Type 0
  FaultsAfter (Ended why) = FaultMatchesStop first last why
  FaultsAfter _ = IsFaultless first last

  faults_after : (ended : ScriptEnd JoinStop)
      → ScriptLeaves IsJoinStep (HasDone see) (HasEnded see) lines_limit input left start now ended
      → FaultsAfter ended
  faults_after Done (at_end, done, has, comes) = faultless done has
  faults_after (Ended why) (done, line, has, next) = (stops_of done line why has).stops.fault
  faults_after _ leaves = faultless leaves.0 leaves.1

  stop_later : (why : JoinStop) → FaultMatchesStop first last why
      → first.print_faults ≤ last.print_faults
  stop_later stop.WriteFault fault = fault.1
  stop_later stop.LinkFault fault = omega (arith, fault.0)
  stop_later stop.Memory fault = omega (arith, fault.print)
  stop_later (stop.NoEntry why) fault = omega (arith, fault.print)

  later : (ended : ScriptEnd JoinStop) → FaultsAfter ended
      → first.print_faults ≤ last.print_faults
  later (Ended why) fault = stop_later why fault
  later _ none = omega (arith, none.print)

  -- the count of the output's faults never falls
  pub later_of : (ended : ScriptEnd JoinStop)
      → ScriptLeaves IsJoinStep (HasDone see) (HasEnded see) lines_limit input left start now ended
      → first.print_faults ≤ last.print_faults
  later_of ended leaves = later ended (faults_after ended leaves)

  module _ (before after sink : ℕ) where
    abbrev counted : Counts
    counted = record {
      input = before;
      output = first.print_faults;
      source = first.source.faults;
      sink = first.write_faults;
    }

    abbrev counts : Counts
    counts = record {
      input = after;
      output = last.print_faults;
      source = last.source.faults;
      sink = sink;
    }

    others_stay : IsFaultless first last → sink ≡ last.write_faults → OthersStay counted counts
    others_stay none same = record {
      output = none.print;
      source = none.read;
      sink = same ∙ none.write;
    }

    farewell_fault : (sent : Option (List ℕ)) (user : ℕ) (end : RunEnd)
        → after ≡ before → IsFaultless first last
        → SaysFarewell last.written sent last.write_faults sink user end
        → FaultMatchesJoin counted counts end
    farewell_fault sent user end same none (inl (is, writes, kept)) =
        subst (FaultMatchesJoin counted counts) (sym is) (same, others_stay none kept)
    farewell_fault sent user end same none (inr (inl (is, writes, rose, rises))) =
        subst (FaultMatchesJoin counted counts) (sym is)
        (same, none.print, inl (subst (λ n. Rose n sink) none.write rose))
    farewell_fault sent user end same none (inr (inr (is, writes, kept))) =
        subst (FaultMatchesJoin counted counts) (sym is) (same, others_stay none kept)

    stop_fault : (why : JoinStop) → after ≡ before → sink ≡ last.write_faults
        → FaultMatchesStop first last why → FaultMatchesJoin counted counts (end_of why)
    stop_fault stop.WriteFault same kept (rose, rises, write, read) =
        (same, rose, read, kept ∙ write)
    stop_fault stop.LinkFault same kept (print, write, read, inl rose) =
        (same, print, inl (subst (Rose first.write_faults) (sym kept) rose))
    stop_fault stop.LinkFault same kept (print, write, read, inr rose) = (same, print, inr rose)
    stop_fault stop.Memory same kept none = (same, others_stay none kept)
    stop_fault (stop.NoEntry why) same kept none =
        link_fault counted counts why same (others_stay none kept)

    matches : (sent : Option (List ℕ)) (ended : ScriptEnd JoinStop) (user : ℕ) (end : RunEnd)
        → FaultsAfter ended → FaultMatchesInput before after ended
        → TakesLeave last.written sent last.write_faults sink user ended end
        → FaultMatchesJoin counted counts end
    matches sent Done user end none fault parts = farewell_fault sent user end fault none parts
    matches sent (Ended why) user end faults fault parts =
        subst (FaultMatchesJoin counted counts) (sym parts.end_is)
        (stop_fault why fault parts.kept faults)
    matches sent _ user end none fault parts =
        subst (FaultMatchesJoin counted counts) (sym parts.end_is)
        (fault, others_stay none parts.kept)

    pub fault_matches_of : (sent : Option (List ℕ)) (ended : ScriptEnd JoinStop) (user : ℕ)
        (end : RunEnd)
        → ScriptLeaves IsJoinStep (HasDone see) (HasEnded see) lines_limit input left start now
        ended
        → FaultMatchesInput before after ended
        → TakesLeave last.written sent last.write_faults sink user ended end
        → FaultMatchesJoin counted counts end
    fault_matches_of sent ended user end leaves fault parts =
        matches sent ended user end (faults_after ended leaves) fault parts
