-- What lines ask for one after the other, and what the actions make, print and may draw.
use Rattle.std.proofs.Common.{◌≡◌, ℕ, ◌≤◌, List, [], ◌∷◌, ◌++◌, refl, sym, ap, ◌∙◌, append_assoc}
use Rattle.std.specs.List.{All, fold}
use Rattle.std.proofs.lemmas.List.{append-nil}
use Rattle.std.proofs.lemmas.List.Elements.{All-nil, All-cons}
use Rattle.std.proofs.lemmas.List.Sums.{fold_push}
use Rattle.dp_lines.specs.declared.line.Line.{Line}
use Rattle.dp_schedule.specs.declared.action.Action.{Action}
use Rattle.dp_schedule.specs.declared.action.Action.TheVariants.{Join, Act, Show}
use Rattle.dp_schedule.specs.declared.action.Instruction.TheVariants.{Say, Up, Take, Reset}
use Rattle.dp_schedule.specs.declared.action.Instruction.TheVariants.{Leave, Cut}
use Rattle.dp_schedule.specs.LineGrammar.{MaySay, Parses}
use Rattle.dp_messages.specs.declared.message.Msg.{Msg}
use Rattle.dp_messages.specs.Messages.{kind_of}
use Rattle.dp_sim.specs.Due.{action_due, schedule_due}
use Rattle.dp_sim.specs.Invariant.{SaysNoControl}
use Rattle.dp_sim.specs.Report.{printed, along, report}
use Rattle.dp_sim.specs.World.{World, first_world, after, world_after}
use Rattle.dp_world_lines.specs.Schedule.{AskFor}
use Rattle.dp_world_lines.proofs.Called.{OneAction}

-- ---- asking

-- one line more asks for one action more
pub asked_more : (done : List Line) (actions : List Action) (line : Line) (action : Action)
    → AskFor done actions → Parses line.bytes action → AskFor (done ++ line ∷ [])
    (actions ++ action ∷ [])
asked_more [] [] line action asked asks = (asks, tt)
asked_more [] (first ∷ actions) line action asked asks = absurd asked
asked_more (first ∷ done) [] line action asked asks = absurd asked
asked_more (first ∷ done) (one ∷ actions) line action (here, asked) asks =
    (here, asked_more done actions line action asked asks)

-- the first of the lines ask for the first of the actions
pub record Begins (actions more : List Action) : Type 0 where
  pub rest : List Action
  pub whole : more ≡ actions ++ rest

pub asked_prefix : OneAction → (done later : List Line) (actions more : List Action)
    → AskFor done actions → AskFor (done ++ later) more → Begins actions more
asked_prefix one [] later [] more prefix whole = record { rest = more; whole = refl }
asked_prefix one [] later (action ∷ actions) more prefix whole = absurd prefix
asked_prefix one (line ∷ done) later [] more prefix whole = absurd prefix
asked_prefix one (line ∷ done) later (action ∷ actions) [] prefix whole = absurd whole
asked_prefix one (line ∷ done) later (action ∷ actions) (other ∷ more) (here, prefix) (there, whole)
    =
    let begins = asked_prefix one done later actions more prefix whole in
    let first : other ≡ action = one line.bytes other action there here in
    let others = begins.whole in record { rest = begins.rest; whole = cc }

-- lines ask for their actions in one way
pub asked_same : OneAction → (done : List Line) (actions more : List Action)
    → AskFor done actions → AskFor done more → actions ≡ more
asked_same one [] [] [] h k = refl
asked_same one [] (action ∷ actions) more h k = absurd h
asked_same one [] [] (other ∷ more) h k = absurd k
asked_same one (line ∷ done) [] more h k = absurd h
asked_same one (line ∷ done) (action ∷ actions) [] h k = absurd k
asked_same one (line ∷ done) (action ∷ actions) (other ∷ more) (here, h) (there, k) =
    let first : action ≡ other = one line.bytes action other here there in
    let others : actions ≡ more = asked_same one done actions more h k in cc

-- ---- what the actions make, print and may draw

module _ {X : Type 0} (gives : World → Action → List X) where
  -- what a schedule gives goes on
  pub along-append : (world : World) (actions more : List Action)
      → along gives world (actions ++ more) ≡ along gives world actions
      ++ along gives (fold after world actions) more
  along-append world [] more = refl
  along-append world (action ∷ actions) more =
      ap (λ (b : List X). gives world action ++ b) (along-append (after world action) actions more)
      ∙ sym (append_assoc (gives world action) (along gives (after world action) actions)
      (along gives (fold after (after world action) actions) more))

  -- one action more
  along_more : (actions : List Action) (action : Action)
      → along gives first_world (actions ++ action ∷ [])
      ≡ along gives first_world actions ++ gives (world_after actions) action
  along_more actions action =
      along-append first_world actions (action ∷ [])
      ∙ ap (λ (b : List X). along gives first_world actions ++ b)
      (append-nil (gives (world_after actions) action))

-- of a report
pub report_more : (actions : List Action) (action : Action)
    → report (actions ++ action ∷ []) ≡ report actions ++ printed (world_after actions) action
report_more = along_more printed

-- of what may be drawn
pub due_more : (actions : List Action) (action : Action)
    → schedule_due (actions ++ action ∷ [])
    ≡ schedule_due actions ++ action_due (world_after actions) action
due_more = along_more action_due

pub world_more : (actions : List Action) (action : Action)
    → world_after (actions ++ action ∷ []) ≡ after (world_after actions) action
world_more actions action = fold_push after first_world actions action

-- ---- what may be said

-- what a line has said is no control message
abbrev pub SaysHigh : Type 0
SaysHigh = (bytes : List ℕ) (m : Msg) → MaySay bytes m → 32 ≤ kind_of m

-- a line asks for no control message
allowed : SaysHigh → (line : List ℕ) (action : Action) → Parses line action → SaysNoControl action
allowed high line (Join name registered) asks = tt
allowed high line (Act client (Say m)) (tail, names, (word, parts, spells)) =
    high spells.bytes m spells.may
allowed high line (Act client Up) asks = tt
allowed high line (Act client Take) asks = tt
allowed high line (Act client (Reset keeps)) asks = tt
allowed high line (Act client Leave) asks = tt
allowed high line (Act client Cut) asks = tt
allowed high line (Show client kind) asks = tt

pub all_allowed : SaysHigh → (lines : List Line) (actions : List Action) → AskFor lines actions
    → All SaysNoControl actions
all_allowed high [] [] asked = All-nil SaysNoControl
all_allowed high [] (action ∷ actions) asked = absurd asked
all_allowed high (line ∷ lines) [] asked = absurd asked
all_allowed high (line ∷ lines) (action ∷ actions) (asks, asked) =
    All-cons SaysNoControl action actions (allowed high line.bytes action asks)
    (all_allowed high lines actions asked)
