-- The lines of a script, done one after the other.
use Rattle.std.specs.Prelude.{◌≡◌, ◌⊎◌, ℕ, List, [], ◌∷◌, ◌++◌, Option}
use Rattle.dp_lines.specs.declared.line.Line.{Line}
use Rattle.dp_messages.specs.declared.message.Entry.{Entry}
use Rattle.dp_schedule.specs.declared.join_action.JoinAction.{JoinAction}
use Rattle.dp_line_machine.specs.Moments.{Moment}
use Rattle.dp_join_link.specs.declared.stops.JoinStop.{JoinStop}
use Rattle.dp_joiner.specs.Joining.{Joining, Progress, Goes, Waits, along, came_to}
use Rattle.dp_join_link.specs.Given.{takeable}
use Rattle.dp_join_link.specs.Reading.{IsNoEntry, ReadsOn, ReadsUpTo}
use Rattle.dp_joiner.specs.Steps.{Seen, Stands, Stops, seen}
use Rattle.dp_joining.specs.declared.machine.JoinMachine.{JoinMachine}
use Rattle.dp_joining.specs.Outcomes.{AllAsk, IsJoinStep}

-- all the lines are done, with all the entries
pub record GoesTo (start now : Seen) (progress : Progress) : Type 0 where
  pub joining : Joining
  pub goes : progress ≡ Goes joining []
  pub stands : Stands start now joining

-- on the way the client stops with this: if the link gives no entry more, a line asks for one
pub record StopsAlong (start now : Seen) (progress : Progress) (stop : JoinStop) : Type 0 where
  pub stops : Stops start now (came_to progress) stop
  pub waits : IsNoEntry stop → progress ≡ Waits (came_to progress)

-- what is seen of the client that does the lines
abbrev pub seen_by : {O B R S : Type 0} → (O → Option (List ℕ)) → (O → ℕ) → JoinMachine B R S → O
    → ℕ → ℕ → Seen
seen_by printed print_faults machine output draws tiles =
    seen printed print_faults machine.joiner output draws tiles

-- what is seen at a moment
abbrev pub at : {M O : Type 0} → (M → O → ℕ → ℕ → Seen) → Moment M O ℕ ℕ → Seen
at see m = see m.machine m.output m.draws m.tiles

-- From the first moment to the second one these lines were done, with these entries of the link.
pub record HasDone {M O : Type 0} (see : M → O → ℕ → ℕ → Seen) (start : Moment M O ℕ ℕ)
    (done : List Line) (now : Moment M O ℕ ℕ) : Type 0 where
  pub actions : List JoinAction
  pub asked : AllAsk done actions
  pub given : List Entry
  pub reads : ReadsOn (at see start).source (at see now).source given
  pub goes : (first : Seen) (j : Joining) → Stands first (at see start) j
      → GoesTo first (at see now) (along actions (takeable given) j)

-- these lines are those that were done, or the next one too, which is a step
abbrev pub IsBegun : List Line → Line → List Line → Type 0
IsBegun done line begun =
    (begun ≡ done) ⊎ ((begun ≡ done ++ line ∷ []) × IsJoinStep done line)

-- From the first moment these lines were done, and at the second one the next had ended the run so.
pub record HasEnded {M O : Type 0} (see : M → O → ℕ → ℕ → Seen) (start : Moment M O ℕ ℕ)
    (done : List Line) (line : Line) (now : Moment M O ℕ ℕ) (stop : JoinStop) : Type 0 where
  pub begun : List Line
  pub is_begun : IsBegun done line begun
  pub actions : List JoinAction
  pub asked : AllAsk begun actions
  pub given : List Entry
  pub reads : ReadsUpTo (at see start).source given stop
  pub stops : (first : Seen) (j : Joining) → Stands first (at see start) j
      → StopsAlong first (at see now) (along actions (takeable given) j) stop
