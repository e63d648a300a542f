-- The commands of a history that are drawn, and histories that differ in their commands alone.
use Rattle.std.specs.Prelude.{ℕ, Bool, true, List, [], ◌∷◌, ◌++◌, map}
use Rattle.std.specs.List.{flat_map}
use Rattle.dp_board.specs.declared.act.Act.{Act}
use Rattle.dp_board.specs.declared.act.Act.TheVariants.{Point, Undo, Redo, Draw, Depth, Other}
use Rattle.dp_board.specs.declared.act.UserAct.{UserAct}
use Rattle.dp_board.specs.Flags.{drawn_flags}

-- the command of an act, if its flag is true
abbrev pub command_of : {Op : Type 0} → Act Op → Bool → List Op
command_of (Draw op) true = op ∷ []
command_of act flag = []

-- the commands of some acts, drawn or not
abbrev pub all_commands : {Op : Type 0} → List (UserAct Op) → List Op
all_commands acts = flat_map (λ a. command_of a.act true) acts

-- the commands whose flags are true, in the order of the history
abbrev pub commands : {Op : Type 0} → List (UserAct Op) → List Bool → List Op
commands [] flags = []
commands (a ∷ rest) [] = []
commands (a ∷ rest) (flag ∷ flags) = command_of a.act flag ++ commands rest flags

-- the commands that are drawn, in the order of the history
abbrev pub drawn_commands : {Op : Type 0} → ℕ → List (UserAct Op) → List Op
drawn_commands depth acts = commands acts (drawn_flags depth acts)

-- an act with another command in place of its own
abbrev pub map_act : {A B : Type 0} → (A → B) → Act A → Act B
map_act f Point = Point
map_act f (Undo who) = Undo who
map_act f (Redo who) = Redo who
map_act f (Draw op) = Draw (f op)
map_act f (Depth depth) = Depth depth
map_act f Other = Other

-- the act of the same user with another command
abbrev pub map_user_act : {A B : Type 0} → (A → B) → UserAct A → UserAct B
map_user_act f a = record { user = a.user; act = map_act f a.act }

-- a history with other commands in place of its own
abbrev pub map_commands : {A B : Type 0} → (A → B) → List (UserAct A) → List (UserAct B)
map_commands f acts = map (map_user_act f) acts
