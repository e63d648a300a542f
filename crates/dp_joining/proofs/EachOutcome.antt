-- It can't be that a script and a link come to no outcome.
use Rattle.std.proofs.Common.{◌≡◌, ◌⊎◌, inl, inr, ⊎_elim, ℕ, ◌≤◌, Bool, true, false, List, [], ◌∷◌}
use Rattle.std.proofs.Common.{◌++◌, length, take, drop, refl, sym, ap, ◌∙◌, subst, arith}
use Rattle.std.proofs.Common.{append_assoc, length-append, length-take, take-append-drop}
use Rattle.std.proofs.lemmas.Bool.{cases_lt}
use Rattle.std.proofs.lemmas.List.{append-nil}
use Rattle.std.specs.List.{flat_map}
use Rattle.dp_frame.specs.Frames.{spelling}
use Rattle.dp_lines.specs.declared.line.Line.{Line}
use Rattle.dp_lines.specs.declared.run_end.RunEnd.{RunEnd}
use Rattle.dp_lines.specs.declared.run_end.RunEnd.TheVariants as run
use Rattle.dp_lines.specs.Ends.{AreSteps, LinesComeTo, LinesEnd, StopsAt, seen}
use Rattle.dp_lines.specs.Ends as ends
use Rattle.dp_messages.specs.declared.message.Entry.{Entry}
use Rattle.dp_schedule.specs.declared.join_action.JoinAction.{JoinAction}
use Rattle.dp_line_machine.specs.Leaves.{AreFirstOf}
use Rattle.dp_line_machine.specs.Limits.{lines_limit}
use Rattle.dp_io.specs.Limits.{stream_limit}
use Rattle.dp_join_link.specs.declared.stops.LinkCause.{LinkCause}
use Rattle.dp_join_link.specs.declared.stops.LinkCause.TheVariants as cause
use Rattle.dp_joiner.specs.Joining.{Progress, Goes, Waits, joined}
use Rattle.dp_join_link.specs.Given.{is_closed}
use Rattle.dp_join_link.specs.Links.{BeginsWith, EndsLink, LinkComesTo}
use Rattle.dp_joining.specs.Outcomes.{AllAsk, IsJoinStep, JoinComesTo, JoinOutcome, link_outcome}
use Rattle.dp_joining.specs.Outcomes.{script_outcome}
use Rattle.dp_joining.proofs.Doing.{asked_more}
use Rattle.dp_joining.proofs.Leaving.{FurtherStep}

-- ---- the script

-- how lines end: all are steps, or one after the steps `done` is none
abbrev Ends : List Line → List Line → Type 0
Ends all done = ((all ≡ done) × AreSteps IsJoinStep done)
    ⊎ ((n : ℕ) × StopsAt IsJoinStep all done n)

-- after steps the next line is one, or the lines stop there
goes : FurtherStep → (done rest : List Line) (actions : List JoinAction) → AllAsk done actions
    → AreSteps IsJoinStep done
    → ((some : List Line) (more : List JoinAction) → AllAsk some more → Ends (done ++ rest) some
    → ⊥)
    → ⊥
goes further done [] actions asked steps none =
    none done actions asked (inl (append-nil done, steps))
goes further done (line ∷ rest) actions asked steps none = none done actions asked (inr (
  line.number,
  record {
    line = line;
    after = rest;
    next = refl;
    number = refl;
    steps = steps;
    bad = λ doable. goes further (done ++ line ∷ []) rest (actions ++ doable.step.0 ∷ [])
        (asked_more done actions line doable.step.0 asked doable.step.1)
        (further done line steps doable)
        (λ some more asks end. none some more asks
        (subst (λ (all : List Line). Ends all some) (append_assoc done (line ∷ []) rest) end));
  },
))

-- these lines of a script are done, and ask for these actions
record Script (input : List ℕ) (done : List Line) (actions : List JoinAction) (last : LinesEnd) :
    Type 0 where
  comes : LinesComeTo IsJoinStep lines_limit input done last
  asked : AllAsk done actions
  first : AreFirstOf IsJoinStep (seen lines_limit input) done

script_ends : AreSteps IsJoinStep [] → FurtherStep → (input : List ℕ)
    → ((done : List Line) (actions : List JoinAction) (last : LinesEnd)
    → Script input done actions last → ⊥) → ⊥
script_ends nothing further input none =
    goes further [] (seen lines_limit input) [] tt nothing (λ done actions asked end. ⊎_elim
    (λ all.
    let first : AreFirstOf IsJoinStep (seen lines_limit input) done =
    record { after = []; parts = all.0 ∙ sym (append-nil done); steps = all.1 } in
    ⊎_elim
    (λ many. none done actions ends.TooLong
    (record { comes = (many, sym all.0, all.1); asked = asked; first = first }))
    (λ few. none done actions ends.AllDone
    (record { comes = (few, sym all.0, all.1); asked = asked; first = first }))
    (cases_lt lines_limit (length input)))
    (λ stops. none done actions (ends.BadLine stops.0) (record {
      comes = stops.1;
      asked = asked;
      first = record {
        after = stops.1.line ∷ stops.1.after;
        parts = stops.1.next;
        steps = stops.1.steps;
      };
    })) end)

-- ---- the link

-- the first bytes of a list are no more
first_bytes : (all xs ys : List ℕ) (limit : ℕ) → take limit all ≡ xs ++ ys
    → (all ≡ xs ++ (ys ++ drop limit all)) × (length xs ≤ limit)
first_bytes all xs ys limit e = (
  sym (take-append-drop limit all) ∙ ap (λ (zs : List ℕ). zs ++ drop limit all) e
      ∙ append_assoc xs ys (drop limit all),
  omega (arith, ap length e, length-append xs ys, length-take limit all),
)

-- a link begins with the entries to which it comes
begins : (link : List ℕ) (entries : List Entry) (end : RunEnd) → LinkComesTo link entries end
    → BeginsWith link entries
begins link entries run.Done (t, few) = record {
  frames = t.frames;
  more = [];
  each = t.splits.each;
  stand = t.stand;
  whole = t.splits.whole;
  counts = omega (
    arith,
    few,
    ap length t.splits.whole,
    length-append (flat_map spelling t.frames) [],
  );
}
begins link entries (run.Truncated n) (rest, t, some, place, few) = record {
  frames = t.frames;
  more = rest;
  each = t.splits.each;
  stand = t.stand;
  whole = t.splits.whole;
  counts = omega (
    arith,
    few,
    ap length t.splits.whole,
    length-append (flat_map spelling t.frames) rest,
  );
}
begins link entries (run.BadMessage n) (at, t, place) =
    let parts = first_bytes link (flat_map spelling t.frames) (spelling t.bad ++ t.more)
    stream_limit t.whole in
    record {
      frames = t.frames;
      more = (spelling t.bad ++ t.more) ++ drop stream_limit link;
      each = t.each;
      stand = t.stand;
      whole = parts.0;
      counts = parts.1;
    }
begins link entries run.Long (rest, t, long) =
    let parts = first_bytes link (flat_map spelling t.frames) rest stream_limit t.splits.whole in
    record {
      frames = t.frames;
      more = rest ++ drop stream_limit link;
      each = t.splits.each;
      stand = t.stand;
      whole = parts.0;
      counts = parts.1;
    }
begins link entries _ comes = absurd comes

-- why it gives none more if none is a Disconnect
by_end : (link : List ℕ) (entries : List Entry) (end : RunEnd) → is_closed entries ≡ false
    → LinkComesTo link entries end → (why : LinkCause) × EndsLink link entries why
by_end link entries run.Done still comes = (cause.Closed, inr (inl (still, comes)))
by_end link entries (run.Truncated n) still comes =
    (cause.Closed, inr (inr (still, n, comes)))
by_end link entries (run.BadMessage n) still comes = (cause.BadMessage n, (still, comes))
by_end link entries run.Long still comes = (cause.Long, (still, comes))
by_end link entries _ still comes = absurd comes

link_ends : (link : List ℕ) (entries : List Entry) (end : RunEnd) → LinkComesTo link entries end
    → (why : LinkCause) × EndsLink link entries why
link_ends link entries end comes = by (is_closed entries) refl
  where
    by : (b : Bool) → is_closed entries ≡ b → (why : LinkCause) × EndsLink link entries why
    by true closed = (cause.Closed, inl (begins link entries end comes, closed))
    by false still = by_end link entries end still comes

-- ---- both

module _ (name input link : List ℕ)
    (none : (outcome : JoinOutcome) → JoinComesTo name input link outcome → ⊥) where
  both : (done : List Line) (actions : List JoinAction) (last : LinesEnd)
      → Script input done actions last → (entries : List Entry) (end : RunEnd)
      → LinkComesTo link entries end → ⊥
  both done actions last script entries end comes = by (joined name actions entries) refl
    where
      by : (p : Progress) → joined name actions entries ≡ p → ⊥
      by (Goes joining left) goes = none (script_outcome last joining) (inl (record {
        done = done;
        last = last;
        comes = script.comes;
        actions = actions;
        asked = script.asked;
        entries = entries;
        begins = begins link entries end comes;
        joining = joining;
        left = left;
        goes = goes;
        outcome_is = refl;
      }))
      by (Waits waiting) waits =
          let why = link_ends link entries end comes in
          none (link_outcome why.0 waiting) (inr (record {
            begun = done;
            prefix = script.first;
            actions = actions;
            asked = script.asked;
            entries = entries;
            waiting = waiting;
            waits = waits;
            why = why.0;
            ends = why.1;
            outcome_is = refl;
          }))

pub not_endless : AreSteps IsJoinStep [] → FurtherStep
    → ((link : List ℕ) → ¬ ((entries : List Entry) (end : RunEnd) → ¬ LinkComesTo link entries end))
    → (name input link : List ℕ)
    → ¬ ((outcome : JoinOutcome) → ¬ JoinComesTo name input link outcome)
not_endless nothing further links name input link none =
    script_ends nothing further input (λ done actions last script.
    links link (λ entries end comes. both name input link none done actions last script entries end
    comes))
