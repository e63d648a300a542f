-- What is drawn for one more act.
use Rattle.std.specs.Prelude.{◌≡◌, ℕ, ◌-◌, ◌<◌, ◌≤◌, true, Option, Some, None}
use Rattle.std.specs.Prelude.{List, [], ◌∷◌, ◌++◌, drop, map, unwrap_or}
use Rattle.std.specs.Option.{option_map, ForSome}
use Rattle.std.specs.List.{fold, Contains}
use Rattle.dp_board.specs.declared.act.Act.{Act}
use Rattle.dp_board.specs.declared.act.UserAct.{UserAct}
use Rattle.dp_board.specs.declared.act.Change.{Change}
use Rattle.dp_board.specs.declared.act.Act.TheVariants.{Point}
use Rattle.dp_board.specs.Strokes.{concerned, last_few}
use Rattle.dp_board.specs.Laws.{depth_in}
use Rattle.dp_board.specs.Commands.{command_of}
use Rattle.dp_board.specs.Moves.{is_redo, is_draw}
use Rattle.dp_board.specs.Table.{Table, moved_in, joined_in, next_strokes, oldest_in, table_with}
use Rattle.dp_savepoints.specs.declared.kept.KeptAct.{KeptAct}
use Rattle.dp_savepoints.specs.declared.kept.Mark.{Mark}
use Rattle.dp_savepoints.specs.Kept.{marked, commands_among}
use Rattle.dp_savepoints.specs.Saves.{PointSave}
use Rattle.dp_rollback.specs.Rollback.{Rolled, Next, IsInOrder, put_on, change_in}
use Rattle.dp_savepoints.specs.Runs.{IsDrawnAnew}
use Rattle.dp_savepoints.specs.Marks.{mark_by, mark_in, kept_in}
use Rattle.dp_savepoints.specs.Saves.{save_of}

-- the acts from the Point of the group of a mark on
abbrev pub kept_from : {B Op : Type 0} → Rolled B Op → Mark → List (KeptAct Op)
kept_from r mark = drop (mark.group - r.base) r.kept

-- the board and the savepoints after that of the group are those that the acts from there on give,
-- with the flags of the mark
pub record IsRedrawn {B Op : Type 0} (draw : B → Op → B) (r : Rolled B Op) (mark : Mark)
    (board : B) (saves : List (PointSave B)) : Type 0 where
  pub from : B
  pub begun : Contains r.saves (record { point = mark.group; board = from })
  pub finished : IsDrawnAnew draw (map (marked mark) (kept_from r mark)) from mark.group r.saves
      board saves

-- the board has the command of an act, if it is one, and all savepoints stay
pub record IsDrawnLast {B Op : Type 0} (draw : B → Op → B) (r : Rolled B Op) (act : Act Op)
    (board : B) (saves : List (PointSave B)) : Type 0 where
  pub drawn : board ≡ fold draw r.board (command_of act true)
  pub saves_stay : saves ≡ r.saves

-- what is drawn for an act: all anew from a savepoint on, if it moves a group
abbrev pub IsDrawnFor : {B Op : Type 0}
    → (B → Op → B) → Rolled B Op → Act Op → Option Mark → B → List (PointSave B) → Type 0
IsDrawnFor draw r act None board saves = IsDrawnLast draw r act board saves
IsDrawnFor draw r act (Some mark) board saves = IsRedrawn draw r mark board saves

-- the savepoints after an act that comes on this board: those of the last Points alone
abbrev pub saves_after : {B Op : Type 0}
    → Table → B → Act Op → List (PointSave B) → List (PointSave B)
saves_after table board act saves =
    last_few (unwrap_or (depth_in act) table.window.depth)
    (saves ++ save_of table.position board act)

-- what is drawn for an act, with the savepoints after it
pub record IsMade {B Op : Type 0} (draw : B → Op → B) (r : Rolled B Op) (act : Act Op)
    (mark : Option Mark) (board : B) (saves : List (PointSave B)) : Type 0 where
  pub old_saves : List (PointSave B)
  pub drawn : IsDrawnFor draw r act mark board old_saves
  pub saves_are : saves ≡ saves_after r.table r.board act old_saves

-- the commands that may be drawn for an act
abbrev pub due_in : {B Op : Type 0} → Rolled B Op → Act Op → Option Mark → List Op
due_in r act None = command_of act true
due_in r act (Some mark) = commands_among (kept_from r mark)

-- an act of users that there are comes next, and a group that it moves is in reach
pub record IsKnown {B Op : Type 0} (r : Rolled B Op) (a : UserAct Op) : Type 0 where
  pub sender : a.user < 256
  pub known : concerned a < 256
  pub order : IsInOrder r
  pub reach : ForSome (mark_in r.table a) (λ mark. oldest_in r.table ≤ mark.group)
  pub before : ForSome (mark_in r.table a) (λ mark. mark.group < r.table.position)

-- what an act makes of it
pub record IsNext {B Op : Type 0} (draw : B → Op → B) (r : Rolled B Op) (a : UserAct Op)
    (next : Next B Op) : Type 0 where
  pub act : next.act ≡ kept_in r.table a
  pub mark : next.mark ≡ mark_in r.table a
  pub strokes : next.strokes ≡ next_strokes r.table a
  pub made : IsMade draw r a.act (mark_in r.table a) next.board next.saves
  pub later : oldest_in r.table ≤ oldest_in (table_with next.strokes r.table)

-- what an act makes of it that moves no group: it has the command of the act, if it is one
abbrev pub next_here : {B Op : Type 0} → (B → Op → B) → Rolled B Op → UserAct Op → Next B Op
next_here draw r a = record {
  act = kept_in r.table a;
  mark = None;
  strokes = next_strokes r.table a;
  board = fold draw r.board (command_of a.act true);
  saves = saves_after r.table r.board a.act r.saves;
}

-- it went on by an act, which did so to the board
pub record HasAdded {B Op : Type 0} (draw : B → Op → B) (old : Rolled B Op) (a : UserAct Op)
    (change : Change) (new : Rolled B Op) : Type 0 where
  pub next : Next B Op
  pub made : IsNext draw old a next
  pub same : new ≡ record (put_on next old) { spare = new.spare }
  pub tells : change ≡ change_in next
