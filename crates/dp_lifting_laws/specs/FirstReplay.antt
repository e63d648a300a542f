-- What a history showed in the first profile, by the strokes of that.
use Rattle.std.specs.Prelude.{ℕ, Bool, false, List, [], ◌∷◌, ◌++◌, map}
use Rattle.std.specs.List.{fold}
use Rattle.dp_messages.specs.declared.message.Entry.{Entry}
use Rattle.dp_board.specs.declared.act.Act.{Act}
use Rattle.dp_board.specs.declared.act.Act.TheVariants.{Draw}
use Rattle.dp_board.specs.declared.act.UserAct.{UserAct}
use Rattle.dp_board.specs.Strokes.{last_of}
use Rattle.dp_board.specs.FirstStrokes.{first_strokes}
use Rattle.dp_board.specs.Flags.{is_group_drawn}
use Rattle.dp_board.specs.Commands.{commands}
use Rattle.dp_plain.specs.Board.{Board, empty_board}
use Rattle.dp_plain.specs.Commands.{draw}
use Rattle.dp_replay.specs.Replay.{undo_depth, user_act_of}

-- an act after `before` was a command that is drawn: its group, the last done one of its user then,
-- was group 0, or was done at the end of the whole history
abbrev pub first_flag : {Op : Type 0}
    → ℕ → List (UserAct Op) → List (UserAct Op) → ℕ → Act Op → Bool
first_flag depth all before user (Draw op) =
    is_group_drawn (first_strokes depth user all).groups.done
    (last_of (first_strokes depth user before).groups.done)
first_flag depth all before user act = false

-- for each act after `before`, whether it was a command that is drawn
abbrev pub first_flags : {Op : Type 0}
    → ℕ → List (UserAct Op) → List (UserAct Op) → List (UserAct Op) → List Bool
first_flags depth all before [] = []
first_flags depth all before (a ∷ rest) =
    first_flag depth all before a.user a.act ∷ first_flags depth all (before ++ a ∷ []) rest

-- the commands of a history that were drawn, on an empty board
abbrev pub first_replay : List Entry → Board
first_replay entries =
    let acts = map user_act_of entries in
    fold draw empty_board (commands acts (first_flags undo_depth acts [] acts))
