-- Lines that are done one after the other, and the line that ends a run.
use Rattle.std.proofs.Common.{◌≡◌, inl, inr, ℕ, List, [], ◌∷◌, ◌++◌, refl, sym, ap, ◌∙◌, subst}
use Rattle.dp_io.proofs.Prefixes.{grows_whole}
use Rattle.dp_lines.specs.declared.line.Line.{Line}
use Rattle.dp_schedule.specs.declared.join_action.JoinAction.{JoinAction}
use Rattle.dp_schedule.specs.JoinGrammar.{Asks}
use Rattle.dp_line_machine.specs.Moments.{Moment}
use Rattle.dp_join_link.specs.declared.stops.JoinStop.{JoinStop}
use Rattle.dp_join_link.specs.declared.stops.JoinStop.TheVariants.{Memory}
use Rattle.dp_joiner.specs.Joining.{Joining, Waits, after_line, along, came_to}
use Rattle.dp_join_link.specs.Given.{takeable}
use Rattle.dp_joining.specs.Outcomes.{AllAsk}
use Rattle.dp_joining.specs.Scripts.{HasDone, HasEnded, at}
use Rattle.dp_joiner.specs.Steps.{Began, Halts, Passes, Seen, Stands, Stops}
use Rattle.dp_join_link.specs.Reading.{IsReadable}
use Rattle.dp_joiner.proofs.Along.{along_exact, along_next, along_one, along_short}
use Rattle.dp_join_link.proofs.Given.{takeable-append}
use Rattle.dp_join_link.proofs.Reading.{reads_none, reads_then, reads_twice, stops_here}

-- ---- asking

-- one line more asks for one action more
pub asked_more : (done : List Line) (actions : List JoinAction) (line : Line) (action : JoinAction)
    → AllAsk done actions → Asks line.bytes action
    → AllAsk (done ++ line ∷ []) (actions ++ action ∷ [])
asked_more [] [] line action asked asks = (asks, tt)
asked_more [] (first ∷ actions) line action asked asks = absurd asked
asked_more (first ∷ done) [] line action asked asks = absurd asked
asked_more (first ∷ done) (one ∷ actions) line action (here, asked) asks =
    (here, asked_more done actions line action asked asks)

-- ---- doing

-- what stands is written whole, and is a prefix
pub began_whole : (first now : Seen) (j : Joining) → Stands first now j
    → Began first now j.text j.written
began_whole first now j stands = record {
  printed = grows_whole first.printed now.printed j.text stands.text;
  sent = grows_whole first.written now.written j.written stands.written;
}

module _ {M O : Type 0} (see : M → O → ℕ → ℕ → Seen) where
  -- the line is done
  pub done_further : (start old now : Moment M O ℕ ℕ) (done : List Line) (line : Line)
      (action : JoinAction) → Asks line.bytes action → Passes (at see old) (at see now) action
      → HasDone see start done old → HasDone see start (done ++ line ∷ []) now
  done_further start old now done line action asks passes has = record {
    actions = has.actions ++ action ∷ [];
    asked = asked_more done has.actions line action has.asked asks;
    given = has.given ++ passes.given;
    reads =
        reads_twice (at see start).source (at see old).source (at see now).source has.given
        passes.given has.reads passes.reads;
    goes = λ first j stands.
        let before = has.goes first j stands in record {
          joining = after_line action (takeable passes.given) before.joining;
          goes =
              ap (λ es. along (has.actions ++ action ∷ []) es j)
              (takeable-append has.given passes.given has.reads.still)
              ∙ along_next has.actions action (takeable has.given) (takeable passes.given) j
              before.joining before.goes
              ∙ along_exact action (takeable passes.given) before.joining passes.many;
          stands = passes.moves first before.joining before.stands;
        };
  }

  -- the next line ends the run
  pub halts_at : (start old now : Moment M O ℕ ℕ) (done : List Line) (line : Line)
      (action : JoinAction) (stop : JoinStop) → Asks line.bytes action
      → Halts (at see old) (at see now) action stop
      → HasDone see start done old → HasEnded see start done line now stop
  halts_at start old now done line action stop asks halts has = record {
    begun = done ++ line ∷ [];
    is_begun = inr (refl, (action, asks));
    actions = has.actions ++ action ∷ [];
    asked = asked_more done has.actions line action has.asked asks;
    given = has.given ++ halts.given;
    reads = reads_then (at see start).source (at see old).source has.given halts.given stop
        has.reads halts.reads;
    stops = λ first j stands.
        let before = has.goes first j stands in
        let progress = along (has.actions ++ action ∷ []) (takeable (has.given ++ halts.given)) j in
        let is : progress ≡ along (action ∷ []) (takeable halts.given) before.joining =
        ap (λ es. along (has.actions ++ action ∷ []) es j)
        (takeable-append has.given halts.given has.reads.still)
        ∙ along_next has.actions action (takeable has.given) (takeable halts.given) j
        before.joining before.goes in
        let next = after_line action (takeable halts.given) before.joining in
        let there : came_to progress ≡ next =
        ap came_to is ∙ along_one action (takeable halts.given) before.joining halts.few in
        record {
          stops =
              subst (λ (k : Joining). Stops first (at see now) k stop) (sym there)
              (halts.stops first before.joining before.stands);
          waits = λ none.
              is ∙ along_short action (takeable halts.given) before.joining (halts.waits none)
              ∙ ap Waits (sym there);
        };
  }

  -- memory ran out before the next line
  pub ran_out_at : (start now : Moment M O ℕ ℕ) (done : List Line) (line : Line)
      → HasDone see start done now → HasEnded see start done line now Memory
  ran_out_at start now done line has = record {
    begun = done;
    is_begun = inl refl;
    actions = has.actions;
    asked = has.asked;
    given = has.given;
    reads = λ bytes before has_given still.
        stops_here (at see start).source (at see now).source has.given has.reads bytes before
        has_given;
    stops = λ first j stands.
        let before = has.goes first j stands in
        record {
          stops =
              subst (λ (k : Joining). Stops first (at see now) k Memory)
              (sym (ap came_to before.goes)) (record {
                wrote = began_whole first (at see now) before.joining before.stands;
                fault = before.stands.faultless;
                counts = before.stands.counts;
              });
          waits = λ none. absurd none;
        };
  }

  -- nothing is done yet
  pub nothing_done : (start : Moment M O ℕ ℕ) → IsReadable (at see start).source
      → HasDone see start [] start
  nothing_done start readable = record {
    actions = [];
    asked = tt;
    given = [];
    reads = reads_none (at see start).source readable;
    goes = λ first j stands. record { joining = j; goes = refl; stands = stands };
  }
