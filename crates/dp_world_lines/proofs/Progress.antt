-- How the machine goes on by a line.
use Rattle.std.proofs.Common.{◌≡◌, ℕ, List, [], ◌∷◌, ◌++◌, refl, sym, ap, ◌∙◌, subst, arith, inl}
use Rattle.std.proofs.Common.{inr}
use Rattle.std.specs.Prelude.{Option, Err}
use Rattle.std.specs.Io.KnownBytes.{Appends}
use Rattle.std.proofs.KnownBytes.{Appends-trans}
use Rattle.dp_board.specs.Counts.{CountsFew}
use Rattle.dp_shown.specs.declared.end.PictureEnd.{PictureEnd}
use Rattle.dp_shown.specs.declared.end.PictureEnd.TheVariants.{Failed, Memory}
use Rattle.dp_shown.specs.Ends.{is_sink_fault}
use Rattle.dp_io.specs.Faults.{HasCause, Rose}
use Rattle.dp_io.specs.Streams.{GrowsByPrefix}
use Rattle.dp_lines.specs.declared.line.Line.{Line}
use Rattle.dp_schedule.specs.declared.action.Action.{Action}
use Rattle.dp_msg_draw.specs.declared.draw.Draw.{Draw}
use Rattle.dp_pixels.specs.Feet.{reach}
use Rattle.dp_schedule.specs.LineGrammar.{Parses}
use Rattle.dp_line_machine.specs.declared.machine.Undone.{Undone}
use Rattle.dp_line_machine.specs.declared.machine.Undone.TheVariants.{NoStep, Ended}
use Rattle.dp_screen.proofs.Leads.{counts_both}
use Rattle.dp_line_machine.specs.Counters.{counters_of}
use Rattle.dp_line_machine.specs.Ends.{IfEnded, IfNoStep}
use Rattle.dp_line_machine.specs.Moments.{Moment}
use Rattle.dp_sim.specs.Due.{action_due, schedule_due}
use Rattle.dp_sim.specs.Report.{printed, report}
use Rattle.dp_sim.specs.World.{World, after, world_after}
use Rattle.dp_world_lines.specs.Schedule.{IsPossible, IsStep}
use Rattle.dp_world_lines.specs.Progress.{HasDone, HasEnded, IsWorldLineRefused, Wrote}
use Rattle.dp_world_lines.specs.Draws.{DrawsFor}
use Rattle.dp_io.proofs.Prefixes.{grows_after, grows_whole}
use Rattle.dp_world_lines.proofs.Called.{OneAction}
use Rattle.dp_world_lines.proofs.Reports.{asked_more, asked_same, due_more, report_more, world_more}

-- a line that asks for what may be done is a step
pub is_step : {M O : Type 0} (world : M → World) (held : O → Option (List ℕ)) (faults : O → ℕ)
    (start old : Moment M O ℕ ℕ) (done : List Line) (line : Line) (action : Action)
    → Parses line.bytes action → IsPossible (world old.machine) action
    → HasDone world held faults start done old → IsStep done line
is_step world held faults start old done line action asks possible has = record {
  actions = has.actions;
  before = has.asked;
  action = action;
  asks = asks;
  possible = subst (λ (w : World). IsPossible w action) has.reaches possible;
}

-- what an action may draw, from the moment before it
abbrev pub ActionCounts : {M O : Type 0} → (M → World) → Moment M O ℕ ℕ → Action → Moment M O ℕ ℕ
    → Type 0
ActionCounts world old action now =
    CountsFew reach (action_due (world old.machine) action) old.draws now.draws old.tiles now.tiles

-- no more is drawn than what the actions before and this one may draw
draws_further : {M O : Type 0} (world : M → World) (held : O → Option (List ℕ)) (faults : O → ℕ)
    (start old now : Moment M O ℕ ℕ) (done : List Line) (action : Action)
    → ActionCounts world old action now
    → (has : HasDone world held faults start done old)
    → DrawsFor (has.actions ++ action ∷ []) (counters_of start now)
draws_further world held faults start old now done action few has =
    subst (λ (due : List Draw). CountsFew reach due start.draws now.draws start.tiles now.tiles)
    (sym (due_more has.actions action))
    (counts_both reach (schedule_due has.actions) (action_due (world_after has.actions) action)
    start.draws old.draws now.draws start.tiles old.tiles now.tiles has.counts
    (subst (λ (w : World). CountsFew reach (action_due w action) old.draws now.draws old.tiles
    now.tiles) has.reaches few))

-- the line is done
pub done_further : {M O : Type 0} (world : M → World) (held : O → Option (List ℕ))
    (faults : O → ℕ) (start old now : Moment M O ℕ ℕ) (done : List Line) (line : Line)
    (action : Action)
    → Parses line.bytes action → world now.machine ≡ after (world old.machine) action
    → Appends (held old.output) (held now.output) (printed (world old.machine) action)
    → ActionCounts world old action now
    → faults now.output ≡ faults old.output
    → HasDone world held faults start done old
    → HasDone world held faults start (done ++ line ∷ []) now
done_further world held faults start old now done line action asks leads written few kept
    has = record {
      actions = has.actions ++ action ∷ [];
      asked = asked_more done has.actions line action has.asked asks;
      reaches = leads ∙ ap (λ (w : World). after w action) has.reaches
          ∙ sym (world_more has.actions action);
      text =
          subst (Appends (held start.output) (held now.output))
          (sym (report_more has.actions action))
          (Appends-trans (held start.output) (held old.output) (held now.output)
          (report has.actions) (printed (world_after has.actions) action)
          has.text
          (subst (λ (w : World). Appends (held old.output) (held now.output) (printed w action))
          has.reaches written));
      counts = draws_further world held faults start old now done action few has;
      kept = kept ∙ has.kept;
    }

-- a part of its text was written
pub wrote_further : {M O : Type 0} (world : M → World) (held : O → Option (List ℕ))
    (faults : O → ℕ) (start old now : Moment M O ℕ ℕ) (done : List Line) (line : Line)
    (action : Action)
    → Parses line.bytes action
    → GrowsByPrefix (held old.output) (held now.output) (printed (world old.machine) action)
    → ActionCounts world old action now
    → HasDone world held faults start done old
    → Wrote (done ++ line ∷ []) (held start.output) (held now.output) (counters_of start now)
wrote_further world held faults start old now done line action asks part few has = record {
  actions = has.actions ++ action ∷ [];
  asked = asked_more done has.actions line action has.asked asks;
  text =
      subst (GrowsByPrefix (held start.output) (held now.output))
      (sym (report_more has.actions action))
      (grows_after (held start.output) (held old.output) (held now.output) (report has.actions)
      (printed (world_after has.actions) action) has.text
      (subst (λ (w : World). GrowsByPrefix (held old.output) (held now.output) (printed w action))
      has.reaches part));
  counts = draws_further world held faults start old now done action few has;
}

-- nothing more was written
pub wrote_done : {M O : Type 0} (world : M → World) (held : O → Option (List ℕ))
    (faults : O → ℕ) (start now : Moment M O ℕ ℕ) (done : List Line)
    → HasDone world held faults start done now
    → Wrote done (held start.output) (held now.output) (counters_of start now)
wrote_done world held faults start now done has = record {
  actions = has.actions;
  asked = has.asked;
  text = grows_whole (held start.output) (held now.output) (report has.actions) has.text;
  counts = has.counts;
}

-- a line that asks for nothing that may be done is no step
pub no_step : {M O : Type 0} → OneAction → (world : M → World) (held : O → Option (List ℕ))
    (faults : O → ℕ) (start old : Moment M O ℕ ℕ) (done : List Line) (line : Line)
    → ((action : Action) → Parses line.bytes action → ¬ IsPossible (world old.machine) action)
    → HasDone world held faults start done old → ¬ IsStep done line
no_step one world held faults start old done line refused has = λ step.
    let same : step.actions ≡ has.actions = asked_same one done step.actions has.actions step.before
    has.asked in
    let here : world_after step.actions ≡ world old.machine = ap world_after same
    ∙ sym has.reaches in
    refused step.action step.asks (subst (λ (w : World). IsPossible w step.action) here
    step.possible)

-- ---- lines that aren't done

-- a line that is refused, but because memory ran out, is no step
pub refused_by : {M O : Type 0} → OneAction → (world : M → World) (held : O → Option (List ℕ))
    (faults : O → ℕ) (old : Moment M O ℕ ℕ) (line : Line) (why : Undone PictureEnd)
    → IsWorldLineRefused line (world old.machine) why
    → IfNoStep ((start : Moment M O ℕ ℕ) (done : List Line)
    → HasDone world held faults start done old → ¬ IsStep done line) why
refused_by one world held faults old line NoStep refused = λ start done has.
    no_step one world held faults start old done line refused has
refused_by one world held faults old line (Ended end) refused = tt

pub kept_by : {M O : Type 0} (world : M → World) (held : O → Option (List ℕ))
    (faults : O → ℕ) (old : Moment M O ℕ ℕ) (why : Undone PictureEnd)
    → IfNoStep ((start : Moment M O ℕ ℕ) (done : List Line)
    → HasDone world held faults start done old → HasDone world held faults start done old) why
kept_by world held faults old NoStep = λ start done has. has
kept_by world held faults old (Ended end) = tt

pub ran_out_by : {M O : Type 0} (world : M → World) (held : O → Option (List ℕ))
    (faults : O → ℕ) (old : Moment M O ℕ ℕ) (line : Line) (why : Undone PictureEnd)
    → IsWorldLineRefused line (world old.machine) why
    → IfEnded (λ end. (start : Moment M O ℕ ℕ) (done : List Line)
    → HasDone world held faults start done old → HasEnded held faults start done line old end) why
ran_out_by world held faults old line NoStep refused = tt
ran_out_by world held faults old line (Ended Memory) refused = λ start done has. record {
  wrote = inl (wrote_done world held faults start old done has);
  kept = has.kept;
}
ran_out_by world held faults old line (Ended Failed) refused = absurd refused

-- the output failed in the text of a line, or memory ran out there
pub ended_by : {M O : Type 0} (world : M → World) (held : O → Option (List ℕ))
    (faults : O → ℕ) (start old now : Moment M O ℕ ℕ) (done : List Line) (line : Line)
    (action : Action) (end : PictureEnd)
    → Parses line.bytes action → IsPossible (world old.machine) action
    → GrowsByPrefix (held old.output) (held now.output) (printed (world old.machine) action)
    → ActionCounts world old action now
    → HasCause {T = Unit {0}} is_sink_fault (faults old.output) (faults now.output) (Err end)
    → (end ≡ Memory → faults now.output ≡ faults old.output)
    → HasDone world held faults start done old → HasEnded held faults start done line now end
ended_by world held faults start old now done line action Failed asks possible part few cause kept
    has =
    record {
      step = is_step world held faults start old done line action asks possible has;
      wrote = wrote_further world held faults start old now done line action asks part few has;
      rose = subst (λ (n : ℕ). Rose n (faults now.output)) has.kept cause.failed;
      later = omega (arith, cause.later, has.kept);
    }
ended_by world held faults start old now done line action Memory asks possible part few cause kept
    has =
    record {
      wrote = inr (
        is_step world held faults start old done line action asks possible has,
        wrote_further world held faults start old now done line action asks part few has,
      );
      kept = kept refl ∙ has.kept;
    }
