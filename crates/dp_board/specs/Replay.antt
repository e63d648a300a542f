-- The replay of a history on any board.
use Rattle.std.specs.Prelude.{ℕ, List}
use Rattle.std.specs.List.{fold}
use Rattle.dp_board.specs.declared.act.UserAct.{UserAct}
use Rattle.dp_board.specs.Commands.{drawn_commands}

-- the board after the commands that are drawn, in the order of the history, from the board `blank`
abbrev pub replay : {B Op : Type 0} → (B → Op → B) → B → ℕ → List (UserAct Op) → B
replay draw blank depth acts = fold draw blank (drawn_commands depth acts)
