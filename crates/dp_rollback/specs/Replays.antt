-- The replay with one more act.
use Rattle.std.specs.Prelude.{◌≡◌, ℕ, true, None, List, [], ◌∷◌, ◌++◌}
use Rattle.std.specs.List.{fold}
use Rattle.dp_board.specs.declared.act.UserAct.{UserAct}
use Rattle.dp_board.specs.Strokes.{moved_by}
use Rattle.dp_board.specs.Commands.{command_of}
use Rattle.dp_board.specs.Replay.{replay}

-- with one more act, which moves no group, the replay has the command of the act drawn, if it is
-- one
abbrev pub ReplayGoesOn : Type 0 → Type 0 → Type 0
ReplayGoesOn B Op =
    (draw : B → Op → B) (blank : B) (depth : ℕ) (acts : List (UserAct Op)) (a : UserAct Op)
    → moved_by depth acts a ≡ None → replay draw blank depth (acts ++ a ∷ [])
    ≡ fold draw (replay draw blank depth acts) (command_of a.act true)
