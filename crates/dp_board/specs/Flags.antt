-- Which acts of a history are commands that are drawn after undo and redo.
use Rattle.std.specs.Prelude.{ℕ, Bool, true, false, Option, Some, None, List, [], ◌∷◌, ◌++◌}
use Rattle.dp_board.specs.declared.act.Act.{Act}
use Rattle.dp_board.specs.declared.act.Act.TheVariants.{Draw}
use Rattle.dp_board.specs.declared.act.UserAct.{UserAct}
use Rattle.dp_board.specs.Strokes.{is_among, last_of, strokes}

-- the group that a command joins after the history `before`: the last done one of its user, or
-- group 0 (None)
abbrev pub joined : {Op : Type 0} → ℕ → ℕ → List (UserAct Op) → Option ℕ
joined depth user before = last_of (strokes depth user before).groups.done

-- the commands of a group are drawn: those of group 0 are, and those of another if it is done
abbrev pub is_group_drawn : List ℕ → Option ℕ → Bool
is_group_drawn done None = true
is_group_drawn done (Some group) = is_among done group

-- a command is drawn if its group is group 0, or is done at the end of the whole history
abbrev pub is_drawn : {Op : Type 0} → ℕ → List (UserAct Op) → List (UserAct Op) → ℕ → Bool
is_drawn depth all before user =
    is_group_drawn (strokes depth user all).groups.done (joined depth user before)

-- an act after `before` is a command that is drawn
abbrev pub flag_of : {Op : Type 0} → ℕ → List (UserAct Op) → List (UserAct Op) → ℕ → Act Op → Bool
flag_of depth all before user (Draw op) = is_drawn depth all before user
flag_of depth all before user act = false

-- for each act after `before`, whether it is a command that is drawn
abbrev pub flags_from : {Op : Type 0}
    → ℕ → List (UserAct Op) → List (UserAct Op) → List (UserAct Op) → List Bool
flags_from depth all before [] = []
flags_from depth all before (a ∷ rest) =
    flag_of depth all before a.user a.act ∷ flags_from depth all (before ++ a ∷ []) rest

-- for each act of a history, whether it is a command that is drawn
abbrev pub drawn_flags : {Op : Type 0} → ℕ → List (UserAct Op) → List Bool
drawn_flags depth acts = flags_from depth acts [] acts
