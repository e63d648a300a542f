-- Each input is due a report, and a run leaves a prefix of it.
use Rattle.std.proofs.Common.{◌≡◌, ℕ, ◌≤◌, ◌⊎◌, inl, inr, List, [], ◌∷◌, ◌++◌, refl, sym, ap, ◌∙◌}
use Rattle.std.proofs.Common.{⊎_elim, subst, append_assoc, arith, length}
use Rattle.std.specs.Prelude.{Option, Some}
use Rattle.std.specs.Io.KnownBytes.{Appends}
use Rattle.std.proofs.lemmas.Bool.{cases_lt}
use Rattle.std.proofs.lemmas.List.{append-nil}
use Rattle.dp_io.proofs.Prefixes.{grows_whole}
use Rattle.dp_lines.specs.declared.line.Line.{Line}
use Rattle.dp_lines.specs.declared.run_end.RunEnd.{RunEnd}
use Rattle.dp_lines.specs.declared.run_end.RunEnd.TheVariants.{Done, BadLine, ReadFault, WriteFault}
use Rattle.dp_lines.specs.declared.run_end.RunEnd.TheVariants.{Long, Memory}
use Rattle.dp_lines.specs.Ends.{AreSteps, LinesEnd, StopsAt, seen}
use Rattle.dp_lines.specs.Ends as ends
use Rattle.dp_lines.specs.Held.{IsLeft}
use Rattle.dp_lines.specs.Lines.{Lacks, ended, newline, numbered, open_rest}
use Rattle.dp_lines.proofs.Seen.{given_seen}
use Rattle.dp_schedule.specs.declared.action.Action.{Action}
use Rattle.dp_line_machine.specs.Counters.{Counters}
use Rattle.dp_line_machine.specs.Limits.{lines_limit}
use Rattle.dp_sim.specs.Report.{report}
use Rattle.dp_world_lines.specs.Draws.{DrawsFor}
use Rattle.dp_world.specs.RunEnds.{DrawsByDue, GrowsByDue, HasBegunOf, ReportsOf}
use Rattle.dp_world.specs.RunEnds.{WorldLeaves, lines_end_of}
use Rattle.dp_world_lines.specs.Schedule.{AskFor, IsStep, WorldComesTo}
use Rattle.dp_world_lines.proofs.Called.{FurtherStep, OneAction}
use Rattle.dp_world.proofs.Prefixes.{begun_draws, begun_due}
use Rattle.dp_world_lines.proofs.Reports.{asked_more}

-- ---- each input comes to an end

no_line : (before : List Line) (line : Line) (after : List Line) → [] ≡ before ++ line ∷ after → ⊥
no_line [] line after e = cc
no_line (first ∷ before) line after e = cc

-- no lines are steps
pub no_steps : AreSteps IsStep []
no_steps = λ before line after e. absurd (no_line before line after e)

-- how lines end: all are steps, or one after the steps `done` is none
abbrev pub Ends : List Line → List Line → Type 0
Ends all done = ((all ≡ done) × AreSteps IsStep done)
    ⊎ ((n : ℕ) × StopsAt IsStep all done n)

-- after steps the next line is one, or the lines stop there
goes : FurtherStep → (done rest : List Line) (actions : List Action) → AskFor done actions
    → AreSteps IsStep done
    → ((some : List Line) (more : List Action) → AskFor some more → Ends (done ++ rest) some → ⊥)
    → ⊥
goes further done [] actions asked steps none =
    none done actions asked (inl (append-nil done, steps))
goes further done (line ∷ rest) actions asked steps none = none done actions asked (inr (
  line.number,
  record {
    line = line;
    after = rest;
    next = refl;
    number = refl;
    steps = steps;
    bad = λ doable. goes further (done ++ line ∷ []) rest
        (doable.step.actions ++ doable.step.action ∷ [])
        (asked_more done doable.step.actions line doable.step.action doable.step.before
        doable.step.asks) (further done line steps doable)
        (λ some more asks end. none some more asks
        (subst (λ (all : List Line). Ends all some) (append_assoc done (line ∷ []) rest) end));
  },
))

-- what an input can't be: one that comes to no end
abbrev pub IsEndless : List ℕ → Type 0
IsEndless bytes =
    (done : List Line) (actions : List Action) (end : LinesEnd)
    → WorldComesTo bytes done actions end → ⊥

pub not_endless : FurtherStep → AreSteps IsStep [] → (bytes : List ℕ) → IsEndless bytes → ⊥
not_endless further nothing bytes none =
    goes further [] (seen lines_limit bytes) [] tt nothing (λ done actions asked end. ⊎_elim
    (λ all. ⊎_elim
    (λ many. none done actions ends.TooLong ((many, sym all.0, all.1), asked))
    (λ few. none done actions ends.AllDone ((few, sym all.0, all.1), asked))
    (cases_lt lines_limit (length bytes)))
    (λ stops. none done actions (ends.BadLine stops.0) (stops.1, asked)) end)

-- ---- what a run leaves

-- If the end is none of a fault (P says so), the report was written of what the input comes to.
pub whole_report : (P : RunEnd → Type 0) → (P ReadFault → ⊥) → (P WriteFault → ⊥) → (P Memory → ⊥)
    → (bytes : List ℕ) (left old now : Option (List ℕ)) (c : Counters) (end : RunEnd)
    → WorldLeaves (Some bytes) left old now c end → P end
    → (done : List Line) × (actions : List Action) × (last : LinesEnd)
    × WorldComesTo bytes done actions last × (end ≡ lines_end_of last)
    × Appends old now (report actions)
whole_report P read write memory bytes left old now c Done h p =
    (h.1.0, h.1.1, ends.AllDone, h.1.2, refl, h.1.3)
whole_report P read write memory bytes left old now c (BadLine n) h p =
    (h.0.0, h.0.1, ends.BadLine n, h.0.2, refl, h.0.3)
whole_report P read write memory bytes left old now c Long h p =
    (h.0.0, h.0.1, ends.TooLong, h.0.2, refl, h.0.3)
whole_report P read write memory bytes left old now c ReadFault h p = absurd (read p)
whole_report P read write memory bytes left old now c WriteFault h p = absurd (write p)
whole_report P read write memory bytes left old now c Memory h p = absurd (memory p)
whole_report P read write memory bytes left old now c _ h p = absurd h

-- bytes are whole lines and a rest, and in one way
pub record OneRest : Type 0 where
  pub lacks : (bytes : List ℕ) → Lacks newline (open_rest bytes)
  pub only : (rest : List ℕ) → Lacks newline rest → (ended rest ≡ []) × (open_rest rest ≡ rest)

-- the lines that are whole in a part that counts are the first of all
whole_first : OneRest → (taken untaken : List ℕ) → length taken ≤ lines_limit
    → (after : List Line)
    × (seen lines_limit (taken ++ untaken) ≡ numbered 0 (ended taken) ++ after)
whole_first one taken untaken counts =
    let rest = one.only (open_rest taken) (one.lacks taken) in
    let count = length (ended taken) in
    let left : IsLeft taken (numbered 0 (ended taken))
    (record { count = count; bytes = open_rest taken; fed = length taken }) = record {
      whole = sym (append-nil (numbered 0 (ended taken)))
          ∙ ap (λ (ls : List (List ℕ)). numbered 0 (ended taken) ++ numbered count ls) (sym rest.0);
      rest = sym rest.1;
      count = omega (arith, ap length rest.0);
      fed = refl;
    } in
    given_seen lines_limit taken untaken (numbered 0 (ended taken)) _ left counts

module _ (one : OneAction) (further : FurtherStep) (nothing : AreSteps IsStep []) (rest : OneRest)
    (bytes : List ℕ) (old now : Option (List ℕ)) (c : Counters) where
  -- lines that were begun
  begun-grows : HasBegunOf (seen lines_limit bytes) old now c → GrowsByDue bytes old now
  begun-grows begun none = not_endless further nothing bytes (λ done actions end comes.
      none done actions end comes (begun_due one bytes old now c begun done actions end comes))

  begun-draws : HasBegunOf (seen lines_limit bytes) old now c → DrawsByDue bytes c
  begun-draws begun none = not_endless further nothing bytes (λ done actions end comes.
      none done actions end comes (begun_draws one bytes old now c begun done actions end comes))

  -- so are the lines that are whole in what was taken
  taken-begun : (left : Option (List ℕ)) → ReportsOf bytes left old now c
      → HasBegunOf (seen lines_limit bytes) old now c
  taken-begun left of =
      let first = whole_first rest of.taken of.untaken of.quiet.counts in
      record {
        begun = numbered 0 (ended of.taken);
        after = first.0;
        parts = ap (seen lines_limit) of.parts ∙ first.1;
        has = record {
          actions = of.actions;
          asked = of.asked;
          steps = of.quiet.steps;
          text = grows_whole old now (report of.actions) of.text;
          counts = of.counts;
        };
      }

  -- the whole report
  whole-grows : (end : LinesEnd)
      → (done : List Line) × (actions : List Action) × WorldComesTo bytes done actions end
      × Appends old now (report actions) × DrawsFor actions c
      → GrowsByDue bytes old now
  whole-grows end whole none =
      none whole.0 whole.1 end whole.2 (grows_whole old now (report whole.1) whole.3)

  pub grows_by_due : (left : Option (List ℕ)) (end : RunEnd)
      → WorldLeaves (Some bytes) left old now c end → GrowsByDue bytes old now
  grows_by_due left Done h = whole-grows ends.AllDone h.1
  grows_by_due left (BadLine n) h = whole-grows (ends.BadLine n) h.0
  grows_by_due left Long h = whole-grows ends.TooLong h.0
  grows_by_due left ReadFault h = begun-grows (taken-begun left h)
  grows_by_due left WriteFault h = begun-grows h.0
  grows_by_due left Memory h = begun-grows h
  grows_by_due left _ h = absurd h

  pub draws_by_due : (left : Option (List ℕ)) (end : RunEnd)
      → WorldLeaves (Some bytes) left old now c end → DrawsByDue bytes c
  draws_by_due left Done h none = none h.1.0 h.1.1 ends.AllDone h.1.2 h.1.4
  draws_by_due left (BadLine n) h none = none h.0.0 h.0.1 (ends.BadLine n) h.0.2 h.0.4
  draws_by_due left Long h none = none h.0.0 h.0.1 ends.TooLong h.0.2 h.0.4
  draws_by_due left ReadFault h none = begun-draws (taken-begun left h) none
  draws_by_due left WriteFault h none = begun-draws h.0 none
  draws_by_due left Memory h none = begun-draws h none
  draws_by_due left _ h none = absurd h
