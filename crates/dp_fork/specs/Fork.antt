-- What a client has said that isn't answered, and the board that shows it.
use Rattle.std.specs.Prelude.{◌≡◌, ℕ, Bool, true, false, not, ◌||◌, ◌&&◌, if◌then◌else◌, ⊤}
use Rattle.std.specs.Prelude.{Option, None, Some, unwrap_or, List, [], ◌∷◌, drop, take}
use Rattle.std.specs.List.{flat_map, fold, list_any}
use Rattle.dp_board.specs.declared.act.Act.{Act}
use Rattle.dp_board.specs.declared.act.Act.TheVariants as variant
use Rattle.dp_board.specs.declared.act.Change.{Change}
use Rattle.dp_board.specs.declared.act.Change.TheVariants.{Drew, Rebuilt, Nothing}
use Rattle.dp_board.specs.Commands.{command_of}
use Rattle.dp_board.specs.Moves.{is_draw}
use Rattle.dp_fork.specs.declared.own.Own.{Own}
use Rattle.dp_fork.specs.declared.own.Own.TheVariants.{Stranger, Echo, Dropped, Lost}

-- acts that are said and not answered, and a board that shows them, if there is one
pub record Forked (B Op : Type 0) : Type 0 where
  pub board : Option B
  pub acts : List (Act Op)

-- the commands of acts, in order
abbrev pub commands_in : {Op : Type 0} → List (Act Op) → List Op
commands_in acts = flat_map (λ act. command_of act true) acts

-- a board shows these commands drawn on the confirmed one; if there is no board there is none of
-- them
abbrev pub Shows : {B Op : Type 0} → (B → Op → B) → B → List Op → Option B → Type 0
Shows draw confirmed commands None = commands ≡ []
Shows draw confirmed commands (Some board) = board ≡ fold draw confirmed commands

-- it is the fork of a client whose confirmed board is this
pub record IsForkOf {B Op : Type 0} (is_board : B → Type 0) (draw : B → Op → B) (confirmed : B)
    (f : Forked B Op) : Type 0 where
  pub board : is_board confirmed
  pub shows : Shows draw confirmed (commands_in f.acts) f.board

-- what the client sees: the fork's board, or the confirmed one if it has none
abbrev pub seen_on : {B Op : Type 0} → B → Forked B Op → B
seen_on confirmed f = unwrap_or f.board confirmed

-- what an answer leaves of the fork
abbrev pub left_by : {X : Type 0} → Own → List X → List X
left_by Stranger said = said
left_by Echo said = drop 1 said
left_by Dropped said = drop 1 said
left_by Lost said = []

-- an act that moved no group made this of a board: its command is drawn, if it is one
abbrev pub Became : {B Op : Type 0} → (B → Op → B) → B → B → Act Op → Change → Type 0
Became draw before now act Drew = now ≡ fold draw before (command_of act true)
Became draw before now act Rebuilt = ⊤
Became draw before now act Nothing = now ≡ fold draw before (command_of act true)

-- an echo is the first of the fork's acts
abbrev pub Answers : {Op : Type 0} → Own → Act Op → List (Act Op) → Type 0
Answers Stranger act said = ⊤
Answers Echo act said = take 1 said ≡ act ∷ []
Answers Dropped act said = ⊤
Answers Lost act said = ⊤

-- a command is apart from each command of the fork
abbrev pub is_apart : {Op : Type 0} → (Op → Op → Bool) → Op → List Op → Bool
is_apart apart op others = not (list_any (λ other. not (apart op other)) others)

-- what a stranger's act draws on the fork's board: its command, if that is apart from the
-- fork's; else all of the fork's anew
abbrev pub due_of_stranger : {Op : Type 0} → (Op → Op → Bool) → Act Op → List (Act Op) → List Op
due_of_stranger apart (variant.Draw op) said =
    if is_apart apart op (commands_in said) then op ∷ [] else commands_in said
due_of_stranger apart act said = []

-- what an act that moves no group draws on the fork's board. An echo draws nothing, and a command
-- that is dropped has those after it drawn anew.
abbrev pub due_unmoved : {Op : Type 0} → (Op → Op → Bool) → Act Op → Own → List (Act Op) → List Op
due_unmoved apart act Stranger said = due_of_stranger apart act said
due_unmoved apart act Echo said = []
due_unmoved apart act Dropped said =
    if is_draw act || list_any is_draw (take 1 said) then commands_in (drop 1 said) else []
due_unmoved apart act Lost said = []

-- the commands that an act may draw on the fork's board: if it moves a group, all that are left
abbrev pub due_on_fork : {Op : Type 0}
    → (Op → Op → Bool) → Act Op → Change → Own → List (Act Op) → List Op
due_on_fork apart act Drew own said = due_unmoved apart act own said
due_on_fork apart act Rebuilt own said = commands_in (left_by own said)
due_on_fork apart act Nothing own said = due_unmoved apart act own said

-- the act may move a group
abbrev pub may_move : {Op : Type 0} → Act Op → Bool
may_move (variant.Undo who) = true
may_move (variant.Redo who) = true
may_move act = false

-- an act that moves no group draws nothing on the fork's board
abbrev pub is_calm : {Op : Type 0} → Act Op → Own → List (Act Op) → Bool
is_calm act Stranger said = not (is_draw act)
is_calm act Echo said = true
is_calm act Dropped said = not (is_draw act || list_any is_draw (take 1 said))
is_calm act Lost said = true

abbrev pub is_stranger : Own → Bool
is_stranger Stranger = true
is_stranger own = false

-- a group moved
abbrev pub is_rebuilt : Change → Bool
is_rebuilt Drew = false
is_rebuilt Rebuilt = true
is_rebuilt Nothing = false

abbrev pub is_lost : Own → Bool
is_lost Stranger = false
is_lost Echo = false
is_lost Dropped = false
is_lost Lost = true

-- the fork's board shows what is left of it on the confirmed board that the act made: no group
-- moved, and the act is calm
abbrev pub board_stays : {Op : Type 0} → Act Op → Change → Own → List (Act Op) → Bool
board_stays act change own said =
    not (is_rebuilt change) && not (is_lost own) && is_calm act own said

-- the fork needs no drawing: no command is left, or no group moved and the act is calm
abbrev pub is_settled : {Op : Type 0} → Act Op → Change → Own → List (Act Op) → Bool
is_settled act change own said =
    not (list_any is_draw (left_by own said)) || (not (is_rebuilt change) && is_calm act own said)

-- the fork needs no drawing, whatever the act changes
abbrev pub is_quiet : {Op : Type 0} → Act Op → Own → List (Act Op) → Bool
is_quiet act own said =
    not (list_any is_draw (left_by own said)) || (not (may_move act) && is_calm act own said)

-- only an act that may move a group has moved one
abbrev pub MovesBy : {Op : Type 0} → Change → Act Op → Type 0
MovesBy Drew act = ⊤
MovesBy Rebuilt act = may_move act ≡ true
MovesBy Nothing act = ⊤
