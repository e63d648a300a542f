-- What a painter sees: the board of what was taken, and the fork of what isn't answered on it.
use Rattle.std.specs.Prelude.{ℕ, List, [], ◌∷◌, ◌++◌}
use Rattle.dp_board.specs.declared.act.UserAct.{UserAct}
use Rattle.dp_fork.specs.declared.own.Own.{Own}
use Rattle.dp_fork.specs.Fork.{Answers, Forked, IsForkOf}
use Rattle.dp_rollback.specs.Rollback.{Rolled, StandsFor}

-- a board that goes on by the acts that are taken, and the fork on it
pub record Screened (B Op : Type 0) : Type 0 where
  pub confirmed : Rolled B Op
  pub fork : Forked B Op

-- a rollback but for the room that it has for more acts
abbrev pub but_for_room : {B Op : Type 0} → Rolled B Op → Rolled B Op
but_for_room r = record r { spare = 0 }

-- its confirmed board stands for the acts that were taken, from the board `blank` on, and its fork
-- shows on that what isn't answered
pub record IsScreenOf {B Op : Type 0} (is_board : B → Type 0) (draw : B → Op → B) (blank : B)
    (depth : ℕ) (acts : List (UserAct Op)) (s : Screened B Op) : Type 0 where
  pub stands : StandsFor draw blank depth acts s.confirmed
  pub forks : IsForkOf is_board draw s.confirmed.board s.fork

-- whatever acts were taken, it goes on by one more, which is this to the fork
abbrev pub ScreenGoesOn : {B Op : Type 0} → (B → Type 0) → (B → Op → B) → UserAct Op → Own
    → Screened B Op → Screened B Op → Type 0
ScreenGoesOn is_board draw a own old new =
    (blank : _) (depth : ℕ) (acts : List (UserAct _))
    → IsScreenOf is_board draw blank depth acts old → Answers own a.act old.fork.acts
    → IsScreenOf is_board draw blank depth (acts ++ a ∷ []) new
