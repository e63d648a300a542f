-- What an act that is taken may draw on both boards.
use Rattle.std.specs.Prelude.{◌≡◌, ℕ, ◌+◌, ◌-◌, ◌≤◌, Bool, true, length, Some, None, List}
use Rattle.std.specs.Prelude.{[], ◌∷◌, ◌++◌}
use Rattle.dp_board.specs.declared.act.Act.{Act}
use Rattle.dp_board.specs.declared.act.Act.TheVariants.{Draw}
use Rattle.dp_board.specs.declared.act.UserAct.{UserAct}
use Rattle.dp_board.specs.Counts.{CountsFew}
use Rattle.dp_board.specs.Strokes.{moved_by}
use Rattle.dp_fork.specs.declared.own.Own.{Own}
use Rattle.dp_fork.specs.declared.own.Own.TheVariants.{Stranger, Echo}
use Rattle.dp_fork.specs.Fork.{commands_in, due_on_fork, is_apart}
use Rattle.dp_rollback.specs.Due.{change_of, due_commands}
use Rattle.dp_screen.specs.Screen.{Screened, IsScreenOf}

-- the commands that an act after a history may draw: those on the confirmed board, and those on the
-- fork's, if `said` isn't answered
abbrev pub due : {Op : Type 0} → (Op → Op → Bool) → ℕ → List (UserAct Op) → UserAct Op → Own
    → List (Act Op) → List Op
due apart depth acts a own said =
    due_commands depth acts a ++ due_on_fork apart a.act (change_of depth acts a) own said

-- what the counters show after an act came, also if it was refused: at most the commands that
-- are due were drawn
abbrev pub CountsOnBoth : {B Op : Type 0} → (B → Type 0) → (B → Op → B) → (Op → ℕ)
    → (Op → Op → Bool) → UserAct Op → Own → Screened B Op → ℕ → ℕ → ℕ → ℕ → Type 0
CountsOnBoth is_board draw weight apart a own s draws draws' tiles tiles' =
    (blank : _) (depth : ℕ) (acts : List (UserAct _))
    → IsScreenOf is_board draw blank depth acts s
    → CountsFew weight (due apart depth acts a own s.fork.acts) draws draws' tiles tiles'

-- an echo that moves no group may draw one command at most
abbrev pub EchoIsDueOne : Type 0 → Type 0
EchoIsDueOne Op =
    (apart : Op → Op → Bool) (depth : ℕ) (acts : List (UserAct Op)) (a : UserAct Op)
    (said : List (Act Op)) → moved_by depth acts a ≡ None
    → length (due apart depth acts a Echo said) ≤ 1

-- a stranger's command that is apart from each of the fork's may be drawn on each board, and no
-- other may
abbrev pub ApartIsDueTwice : Type 0 → Type 0
ApartIsDueTwice Op =
    (apart : Op → Op → Bool) (depth : ℕ) (acts : List (UserAct Op)) (user : ℕ) (op : Op)
    (said : List (Act Op)) → is_apart apart op (commands_in said) ≡ true
    → due apart depth acts (record { user = user; act = Draw op }) Stranger said
    ≡ op ∷ op ∷ []

-- An act that moves a group may draw few commands: at most as many as there are acts from the Point
-- of that group on, and those of the fork.
abbrev pub MoveIsDueFew : Type 0 → Type 0
MoveIsDueFew Op =
    (apart : Op → Op → Bool) (depth : ℕ) (acts : List (UserAct Op)) (a : UserAct Op) (own : Own)
    (said : List (Act Op)) (group : ℕ) → moved_by depth acts a ≡ Some group
    → length (due apart depth acts a own said) ≤ (length acts - group) + length said
