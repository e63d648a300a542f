-- Acts with what they joined and whether they are drawn.
use Rattle.std.specs.Prelude.{ℕ, Bool, true, Option, Some, None, List, [], ◌∷◌, map, take}
use Rattle.std.specs.List.{flat_map}
use Rattle.dp_board.specs.declared.act.UserAct.{UserAct}
use Rattle.dp_board.specs.declared.join.Join.{Join}
use Rattle.dp_board.specs.Flags.{drawn_flags}
use Rattle.dp_board.specs.Commands.{command_of}
use Rattle.dp_board.specs.Joins.{joins}
use Rattle.dp_board.specs.Moves.{flag_with}
use Rattle.dp_savepoints.specs.declared.kept.KeptAct.{KeptAct}
use Rattle.dp_savepoints.specs.declared.kept.Mark.{Mark}

-- each act with what it joined and its flag
abbrev pub kept_acts : {Op : Type 0}
    → List (UserAct Op) → List Join → List Bool → List (KeptAct Op)
kept_acts [] joins flags = []
kept_acts (a ∷ acts) [] flags = []
kept_acts (a ∷ acts) (join ∷ joins) [] = []
kept_acts (a ∷ acts) (join ∷ joins) (flag ∷ flags) =
    record { act = a; join = join; drawn = flag } ∷ kept_acts acts joins flags

-- the acts of a history, each with what it joined and whether it is drawn at the end
abbrev pub kept_of : {Op : Type 0} → ℕ → List (UserAct Op) → List (KeptAct Op)
kept_of depth acts = kept_acts acts (joins depth acts) (drawn_flags depth acts)

-- the command of an act, if it is drawn
abbrev pub drawn_command : {Op : Type 0} → KeptAct Op → List Op
drawn_command k = command_of k.act.act k.drawn

-- the commands that are drawn
abbrev pub drawn_among : {Op : Type 0} → List (KeptAct Op) → List Op
drawn_among kept = flat_map drawn_command kept

-- all commands, drawn or not
abbrev pub commands_among : {Op : Type 0} → List (KeptAct Op) → List Op
commands_among kept = flat_map (λ k. command_of k.act.act true) kept

-- the act, with the flag of the mark if it joined the group of the mark
abbrev pub marked : {Op : Type 0} → Mark → KeptAct Op → KeptAct Op
marked mark k = record k { drawn = flag_with mark.user mark.group mark.drawn k.join k.drawn }

-- the acts after a move of a group, if one moved
abbrev pub marked_all : {Op : Type 0} → Option Mark → List (KeptAct Op) → List (KeptAct Op)
marked_all None kept = kept
marked_all (Some mark) kept = map (marked mark) kept

-- the commands that are drawn among the first `count` acts of a history
abbrev pub drawn_first : {Op : Type 0} → ℕ → List (UserAct Op) → ℕ → List Op
drawn_first depth acts count = drawn_among (take count (kept_of depth acts))
