-- What a run leaves, from what its lines do.
use Rattle.std.proofs.Common.{◌≡◌, ℕ, ◌≤◌, ◌⊎◌, inl, inr, List, [], ◌∷◌, ◌++◌, refl, sym, ap}
use Rattle.std.proofs.Common.{◌∙◌, subst, append_assoc, arith}
use Rattle.std.specs.Prelude.{Option, Some, None, IfSome}
use Rattle.std.proofs.lemmas.List.{nil_from_length}
use Rattle.std.proofs.KnownBytes.{Appends-nil}
use Rattle.std.specs.Io.KnownBytes.{Appends}
use Rattle.dp_shown.specs.declared.end.PictureEnd.{PictureEnd}
use Rattle.dp_shown.specs.declared.end.PictureEnd.TheVariants as picture
use Rattle.dp_lines.specs.declared.line.Line.{Line}
use Rattle.dp_lines.specs.declared.run_end.RunEnd.TheVariants as run
use Rattle.dp_lines.specs.Ends.{AreSteps, LinesEnd, LinesComeTo, seen}
use Rattle.dp_lines.specs.Ends as ends
use Rattle.dp_lines.specs.TakenParts.{TookWithin}
use Rattle.dp_line_machine.specs.Counters.{Counters, NothingIsDrawn, counters, counters_of}
use Rattle.dp_line_machine.specs.declared.machine.ScriptEnd.{ScriptEnd}
use Rattle.dp_line_machine.specs.declared.machine.ScriptEnd.TheVariants.{Done, BadLine, ReadFault, Long}
use Rattle.dp_line_machine.specs.declared.machine.ScriptEnd.TheVariants.{Memory, Ended}
use Rattle.dp_line_machine.specs.Ends.{FaultMatchesInput}
use Rattle.dp_line_machine.specs.Leaves.{HoldsLines, AreFirstOf, IsNextOf, ScriptLeaves}
use Rattle.dp_line_machine.specs.Moments.{Moment}
use Rattle.dp_sim.specs.World.{World, first_world}
use Rattle.dp_world_lines.specs.Schedule.{AskFor, IsStep}
use Rattle.dp_line_machine.specs.Limits.{lines_limit}
use Rattle.dp_world_lines.specs.Progress.{HasDone, HasEnded, Wrote}
use Rattle.dp_lines.specs.RunEnds.{FaultMatchesEnd}
use Rattle.dp_world_lines.specs.Draws.{DrawsFor}
use Rattle.dp_world.specs.RunEnds.{ReportsOf, ReportsPart}
use Rattle.dp_world.specs.RunEnds.{ReportsWhole, TookNoCause, WorldLeaves, run_end_of}
use Rattle.dp_world_lines.proofs.Called.{FurtherStep}
use Rattle.dp_world_lines.proofs.Progress.{wrote_done}

-- if nothing is drawn, no more is than no action may draw
nothing_draws : (c : Counters) → NothingIsDrawn c → DrawsFor [] c
nothing_draws c (draws, tiles) = record {
  draws_rise = omega (arith, draws);
  few_draws = omega (arith, draws);
  tiles_rise = omega (arith, tiles);
  few_tiles = omega (arith, tiles);
}

-- no line is done yet
pub nothing_done : {M O : Type 0} (world : M → World) (held : O → Option (List ℕ))
    (faults : O → ℕ) (start : Moment M O ℕ ℕ) → world start.machine ≡ first_world
    → HasDone world held faults start [] start
nothing_done world held faults start first = record {
  actions = [];
  asked = tt;
  reaches = first;
  text = Appends-nil (held start.output);
  counts = nothing_draws (counters_of start start) (refl, refl);
  kept = refl;
}

-- memory is refused before the first line
pub nothing_leaves : AreSteps IsStep [] → (input left old now : Option (List ℕ)) (c : Counters)
    → Appends old now [] → NothingIsDrawn c → WorldLeaves input left old now c run.Memory
nothing_leaves none None left old now c same still = tt
nothing_leaves none (Some bytes) left old now c same still = record {
  begun = [];
  after = seen lines_limit bytes;
  parts = refl;
  has = record {
    actions = [];
    asked = tt;
    steps = none;
    text = (0, omega arith, same);
    counts = nothing_draws c still;
  };
}

pub refused_leaves : AreSteps IsStep [] → (input left old : Option (List ℕ)) (draws tiles : ℕ)
    → WorldLeaves input left old old (counters draws draws tiles tiles) run.Memory
refused_leaves none input left old draws tiles =
    nothing_leaves none input left old old (counters draws draws tiles tiles) (Appends-nil old)
    (refl, refl)

-- the report of the lines that the input comes to
whole_of : {M O : Type 0} {world : M → World} {held : O → Option (List ℕ)} {faults : O → ℕ}
    {start now : Moment M O ℕ ℕ} (input : Option (List ℕ)) (done : List Line) (end : LinesEnd)
    → HasDone world held faults start done now
    → IfSome input (λ bytes. LinesComeTo IsStep lines_limit bytes done end)
    → ReportsWhole input (held start.output) (held now.output) (counters_of start now) end
whole_of None done end has comes = tt
whole_of (Some bytes) done end has comes =
    (done, has.actions, (comes, has.asked), has.text, has.counts)

-- the report of the lines that are whole in what was taken
fault_of : {M O : Type 0} {world : M → World} {held : O → Option (List ℕ)} {faults : O → ℕ}
    {start now : Moment M O ℕ ℕ} (input left : Option (List ℕ)) (done : List Line)
    → HasDone world held faults start done now
    → IfSome input (λ bytes. TookWithin (HoldsLines IsStep lines_limit done) 0 bytes left)
    → IfSome input (λ bytes. ReportsOf bytes left (held start.output) (held now.output)
    (counters_of start now))
fault_of None left done has took = tt
fault_of (Some bytes) left done has took = record {
  taken = took.taken;
  untaken = took.untaken;
  parts =
      took.whole
      ∙ ap (λ (xs : List ℕ). took.taken ++ (xs ++ took.untaken)) (nil_from_length took.after
      (omega (arith, took.few)));
  left_is = took.left_is;
  quiet = took.meets.quiet;
  actions = has.actions;
  asked = subst (λ (ls : List Line). AskFor ls has.actions) took.meets.lines has.asked;
  text = has.text;
  counts = has.counts;
}

-- a prefix of the report of the lines that were done
part_of_done : (input old now : Option (List ℕ)) (c : Counters) (done : List Line)
    → Wrote done old now c
    → IfSome input (λ bytes. AreFirstOf IsStep (seen lines_limit bytes) done)
    → ReportsPart input old now c
part_of_done None old now c done wrote prefix = tt
part_of_done (Some bytes) old now c done wrote prefix = record {
  begun = done;
  after = prefix.after;
  parts = prefix.parts;
  has = record {
    actions = wrote.actions;
    asked = wrote.asked;
    steps = prefix.steps;
    text = wrote.text;
    counts = wrote.counts;
  };
}

-- the lines that were done are the first
first_of_next : (input : Option (List ℕ)) (done : List Line) (line : Line)
    → IfSome input (λ bytes. IsNextOf IsStep (seen lines_limit bytes) done line)
    → IfSome input (λ bytes. AreFirstOf IsStep (seen lines_limit bytes) done)
first_of_next None done line next = tt
first_of_next (Some bytes) done line next =
    record { after = line ∷ next.after; parts = next.parts; steps = next.steps }

-- a prefix of the report of the lines that were done and of the next one
part_of_next : FurtherStep → (input old now : Option (List ℕ)) (c : Counters) (done : List Line)
    (line : Line) → IsStep done line → Wrote (done ++ line ∷ []) old now c
    → IfSome input (λ bytes. IsNextOf IsStep (seen lines_limit bytes) done line)
    → ReportsPart input old now c
part_of_next further None old now c done line step wrote next = tt
part_of_next further (Some bytes) old now c done line step wrote next = record {
  begun = done ++ line ∷ [];
  after = next.after;
  parts = next.parts ∙ sym (append_assoc done (line ∷ []) next.after);
  has = record {
    actions = wrote.actions;
    asked = wrote.asked;
    steps = further done line next.steps (record { fits = next.fits; step = step });
    text = wrote.text;
    counts = wrote.counts;
  };
}

-- memory ran out before the next line, or in its text
part_of_memory : FurtherStep → (input old now : Option (List ℕ)) (c : Counters)
    (done : List Line) (line : Line)
    → Wrote done old now c ⊎ (IsStep done line × Wrote (done ++ line ∷ []) old now c)
    → IfSome input (λ bytes. IsNextOf IsStep (seen lines_limit bytes) done line)
    → ReportsPart input old now c
part_of_memory further input old now c done line (inl wrote) next =
    part_of_done input old now c done wrote (first_of_next input done line next)
part_of_memory further input old now c done line (inr (step, wrote)) next =
    part_of_next further input old now c done line step wrote next

pub leaves_of : {M O : Type 0} (world : M → World) (held : O → Option (List ℕ))
    (faults : O → ℕ) → FurtherStep → (input left : Option (List ℕ)) (start now : Moment M O ℕ ℕ)
    (end : ScriptEnd PictureEnd)
    → ScriptLeaves IsStep (HasDone world held faults) (HasEnded held faults) lines_limit input left
    start now end
    → TookNoCause input left
    → WorldLeaves input left (held start.output) (held now.output) (counters_of start now)
    (run_end_of end)
leaves_of world held faults further input left start now Done (at_end, done, has, comes) took =
    (at_end, whole_of input done ends.AllDone has comes)
leaves_of world held faults further input left start now (BadLine n) (done, has, comes) took =
    (whole_of input done (ends.BadLine n) has comes, took)
leaves_of world held faults further input left start now ReadFault (done, has, taken) took =
    fault_of input left done has taken
leaves_of world held faults further input left start now Long (done, has, comes) took =
    (whole_of input done ends.TooLong has comes, took)
leaves_of world held faults further input left start now Memory (done, has, prefix) took =
    part_of_done input (held start.output) (held now.output) (counters_of start now) done
    (wrote_done world held faults start now done has) prefix
leaves_of world held faults further input left start now (Ended picture.Failed)
    (done, line, failed, next) took = (
      part_of_next further input (held start.output) (held now.output) (counters_of start now)
          done line failed.step failed.wrote next,
      took,
    )
leaves_of world held faults further input left start now (Ended picture.Memory)
    (done, line, ran_out, next) took =
    part_of_memory further input (held start.output) (held now.output) (counters_of start now) done
    line ran_out.wrote next

pub fault_matches_of : {M O : Type 0} (world : M → World) (held : O → Option (List ℕ))
    (faults : O → ℕ) (input left : Option (List ℕ)) (start now : Moment M O ℕ ℕ)
    (before after : ℕ) (end : ScriptEnd PictureEnd)
    → ScriptLeaves IsStep (HasDone world held faults) (HasEnded held faults) lines_limit input left
    start now end
    → FaultMatchesInput before after end
    → FaultMatchesEnd before after (faults start.output) (faults now.output) (run_end_of end)
fault_matches_of world held faults input left start now before after Done (at_end, done, has, comes)
    b =
    (b, has.kept)
fault_matches_of world held faults input left start now before after (BadLine n) (done, has, comes)
    b =
    (b, has.kept)
fault_matches_of world held faults input left start now before after ReadFault (done, has, taken)
    b =
    (b, has.kept)
fault_matches_of world held faults input left start now before after Long (done, has, comes) b =
    (b, has.kept)
fault_matches_of world held faults input left start now before after Memory (done, has, prefix) b =
    (b, has.kept)
fault_matches_of world held faults input left start now before after (Ended picture.Failed)
    (done, line, failed, next) b = (b, failed.rose)
fault_matches_of world held faults input left start now before after (Ended picture.Memory)
    (done, line, ran_out, next) b = (b, ran_out.kept)

-- the count of the output's faults never falls
pub later_of : {M O : Type 0} (world : M → World) (held : O → Option (List ℕ))
    (faults : O → ℕ) (input left : Option (List ℕ)) (start now : Moment M O ℕ ℕ)
    (end : ScriptEnd PictureEnd)
    → ScriptLeaves IsStep (HasDone world held faults) (HasEnded held faults) lines_limit input left
    start now end
    → faults start.output ≤ faults now.output
later_of world held faults input left start now Done (at_end, done, has, comes) =
    omega (arith, has.kept)
later_of world held faults input left start now (BadLine n) (done, has, comes) =
    omega (arith, has.kept)
later_of world held faults input left start now ReadFault (done, has, taken) =
    omega (arith, has.kept)
later_of world held faults input left start now Long (done, has, comes) = omega (arith, has.kept)
later_of world held faults input left start now Memory (done, has, prefix) =
    omega (arith, has.kept)
later_of world held faults input left start now (Ended picture.Failed) (done, line, failed, next) =
    failed.later
later_of world held faults input left start now (Ended picture.Memory) (done, line, ran_out, next) =
    omega (arith, ran_out.kept)
