-- Groups that an act moves, and an act that comes next.
use Rattle.std.specs.Prelude.{ℕ, Option}
use Rattle.std.specs.Option.{option_map}
use Rattle.dp_board.specs.declared.act.UserAct.{UserAct}
use Rattle.dp_board.specs.Strokes.{concerned}
use Rattle.dp_board.specs.Moves.{is_redo, is_draw}
use Rattle.dp_board.specs.Table.{Table, moved_in, joined_in}
use Rattle.dp_savepoints.specs.declared.kept.KeptAct.{KeptAct}
use Rattle.dp_savepoints.specs.declared.kept.Mark.{Mark}

-- the mark of an act that moves the group
abbrev pub mark_by : {Op : Type 0} → UserAct Op → ℕ → Mark
mark_by a group = record { user = concerned a; group = group; drawn = is_redo a.act }

-- the mark of an act, if it moves a group
abbrev pub mark_in : {Op : Type 0} → Table → UserAct Op → Option Mark
mark_in table a = option_map (mark_by a) (moved_in table a)

-- an act that comes next, as it is kept
abbrev pub kept_in : {Op : Type 0} → Table → UserAct Op → KeptAct Op
kept_in table a = record { act = a; join = joined_in table a; drawn = is_draw a.act }
