-- What an act that comes next may draw.
use Rattle.std.specs.Prelude.{◌≡◌, ℕ, ◌-◌, ◌≤◌, length, true, Option, Some, None, List, []}
use Rattle.std.specs.Prelude.{◌∷◌, drop}
use Rattle.dp_board.specs.Counts.{CountsFew}
use Rattle.dp_board.specs.declared.act.Act.{Act}
use Rattle.dp_board.specs.declared.act.Act.TheVariants.{Draw}
use Rattle.dp_board.specs.declared.act.UserAct.{UserAct}
use Rattle.dp_board.specs.declared.act.Change.{Change}
use Rattle.dp_board.specs.declared.act.Change.TheVariants.{Drew, Rebuilt, Nothing}
use Rattle.dp_board.specs.Strokes.{moved_by}
use Rattle.dp_board.specs.Commands.{command_of, all_commands}
use Rattle.dp_rollback.specs.Rollback.{Rolled, StandsFor}

-- the commands that an act after others may draw, if it moves the group `moved`: its own, or
-- those from the Point of that group on
abbrev pub due_by : {Op : Type 0} → List (UserAct Op) → Act Op → Option ℕ → List Op
due_by acts (Draw op) moved = op ∷ []
due_by acts act None = []
due_by acts act (Some group) = all_commands (drop group acts)

-- the commands that an act after a history may draw
abbrev pub due_commands : {Op : Type 0} → ℕ → List (UserAct Op) → UserAct Op → List Op
due_commands depth acts a = due_by acts a.act (moved_by depth acts a)

-- what the counters show after an act came to a rollback, also if it was refused: they rise, and
-- for each history that the rollback stands for, at most the commands that are due were drawn
pub record CountsDue {B Op : Type 0} (draw : B → Op → B) (weight : Op → ℕ) (r : Rolled B Op)
    (a : UserAct Op) (old_draws new_draws old_tiles new_tiles : ℕ) : Type 0 where
  pub draws_rise : old_draws ≤ new_draws
  pub tiles_rise : old_tiles ≤ new_tiles
  pub due : (blank : B) (depth : ℕ) (acts : List (UserAct Op))
      → StandsFor draw blank depth acts r
      → CountsFew weight (due_commands depth acts a) old_draws new_draws old_tiles new_tiles

-- what an act does to the board, if it moves the group `moved`
abbrev pub change_by : {Op : Type 0} → Act Op → Option ℕ → Change
change_by (Draw op) moved = Drew
change_by act None = Nothing
change_by act (Some group) = Rebuilt

-- what an act after a history does to the board
abbrev pub change_of : {Op : Type 0} → ℕ → List (UserAct Op) → UserAct Op → Change
change_of depth acts a = change_by a.act (moved_by depth acts a)

-- an act that moves no group may draw its own command alone
abbrev pub OwnCommandIsDue : Type 0 → Type 0
OwnCommandIsDue Op =
    (depth : ℕ) (acts : List (UserAct Op)) (a : UserAct Op) → moved_by depth acts a ≡ None
    → due_commands depth acts a ≡ command_of a.act true

-- one that moves a group may draw at most as many commands as there are acts from its Point on
abbrev pub FewAreDue : Type 0 → Type 0
FewAreDue Op =
    (depth : ℕ) (acts : List (UserAct Op)) (a : UserAct Op) (group : ℕ)
    → moved_by depth acts a ≡ Some group
    → length (due_commands depth acts a) ≤ length acts - group
