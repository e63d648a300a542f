-- Histories whose end stands alone: it moves no group of before it.
use Rattle.std.specs.Prelude.{◌≡◌, ℕ, ◌≤◌, Some, List, ◌∷◌, ◌++◌, length}
use Rattle.dp_board.specs.declared.act.UserAct.{UserAct}
use Rattle.dp_board.specs.Strokes.{moved_by}
use Rattle.dp_board.specs.Commands.{drawn_commands}
use Rattle.dp_board.specs.Laws.{depth_after}
use Rattle.dp_board.specs.Replay.{replay}

-- After the history `before` the acts `after` stand alone: no Undo or Redo of them moves a group
-- that was opened before them.
abbrev pub StandAlone : {Op : Type 0} → ℕ → List (UserAct Op) → List (UserAct Op) → Type 0
StandAlone {Op} depth before after =
    (done rest : List (UserAct Op)) (a : UserAct Op) (group : ℕ) → after ≡ done ++ a ∷ rest
    → moved_by depth (before ++ done) a ≡ Some group → length before ≤ group

-- acts that stand alone are drawn as they are by themselves, from the depth in force on, after what
-- was drawn before them
abbrev pub SuffixesStandAlone : Type 0 → Type 0
SuffixesStandAlone Op =
    (depth : ℕ) (before after : List (UserAct Op)) → StandAlone depth before after
    → drawn_commands depth (before ++ after)
    ≡ drawn_commands depth before ++ drawn_commands (depth_after depth before) after

-- on a board, acts that stand alone are replayed on what the history before them showed
abbrev pub SuffixesShowAlone : Type 0 → Type 0 → Type 0
SuffixesShowAlone B Op =
    (draw : B → Op → B) (blank : B) (depth : ℕ) (before after : List (UserAct Op))
    → StandAlone depth before after
    → replay draw blank depth (before ++ after)
    ≡ replay draw (replay draw blank depth before) (depth_after depth before) after
