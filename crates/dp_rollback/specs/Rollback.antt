-- A board that goes on act by act, and back to savepoints.
use Rattle.std.specs.Prelude.{◌≡◌, ℕ, ◌+◌, ◌-◌, ◌<◌, ◌≤◌, Option}
use Rattle.std.specs.Prelude.{List, [], ◌∷◌, ◌++◌, length, take, drop, map}
use Rattle.std.specs.Prelude.{if◌then◌else◌, is_some}
use Rattle.std.specs.List.{fold, All}
use Rattle.std.specs.List.Sorted.{IsNonDecreasing}
use Rattle.dp_board.specs.declared.act.UserAct.{UserAct}
use Rattle.dp_board.specs.declared.act.Change.{Change}
use Rattle.dp_board.specs.declared.act.Change.TheVariants.{Drew, Rebuilt, Nothing}
use Rattle.dp_board.specs.Replay.{replay}
use Rattle.dp_board.specs.Table.{Table, NextStrokes, IsTableAfter, oldest_in, table_with}
use Rattle.dp_savepoints.specs.declared.kept.KeptAct.{KeptAct}
use Rattle.dp_savepoints.specs.declared.kept.Mark.{Mark}
use Rattle.dp_savepoints.specs.Kept.{kept_of, drawn_among, marked_all}
use Rattle.dp_savepoints.specs.Kept.{drawn_first}
use Rattle.dp_savepoints.specs.Saves.{PointSave, points_of}

-- a board, the strokes of all users, the last acts, from the position `base` on, and the savepoints
-- of the Points in reach. There is room for `spare` more acts
pub record Rolled (B Op : Type 0) : Type 0 where
  pub board : B
  pub table : Table
  pub base : ℕ
  pub kept : List (KeptAct Op)
  pub saves : List (PointSave B)
  pub spare : ℕ

-- what an act makes of it: the act itself, the mark if it moves a group, the strokes, the board,
-- and the savepoints
pub record Next (B Op : Type 0) : Type 0 where
  pub act : KeptAct Op
  pub mark : Option Mark
  pub strokes : NextStrokes
  pub board : B
  pub saves : List (PointSave B)

-- the board at a position of a history: the commands before it are drawn that are drawn in the
-- whole history
abbrev pub board_at : {B Op : Type 0} → (B → Op → B) → B → ℕ → List (UserAct Op) → ℕ → B
board_at draw blank depth acts position = fold draw blank (drawn_first depth acts position)

-- it stands for the acts of a history, from the board `blank` on
pub record StandsFor {B Op : Type 0} (draw : B → Op → B) (blank : B) (depth : ℕ)
    (acts : List (UserAct Op)) (r : Rolled B Op) : Type 0 where
  pub table : IsTableAfter depth acts r.table
  pub kept : r.kept ≡ drop r.base (kept_of depth acts)
  pub board : r.board ≡ replay draw blank depth acts
  pub saves : All (λ save. save.board ≡ board_at draw blank depth acts save.point) r.saves

-- each Point in reach has its savepoint, in order, and there are no more; all came before the
-- position
pub record AreSaved (position : ℕ) (points saved : List ℕ) : Type 0 where
  pub same : saved ≡ points
  pub rising : IsNonDecreasing points
  pub before : All (λ point. point < position) points

-- acts are kept up to the end, from the oldest Point in reach on, and the savepoints are those of
-- the Points in reach
pub record KeepsReach (table : Table) (base kept : ℕ) (points : List ℕ) : Type 0 where
  pub up_to_end : table.position ≡ base + kept
  pub begins : base ≡ oldest_in table
  pub saved : AreSaved table.position table.window.points points

-- a rollback's value keeps its reach
abbrev pub IsInOrder : {B Op : Type 0} → Rolled B Op → Type 0
IsInOrder r = KeepsReach r.table r.base (length r.kept) (points_of r.saves)

-- without the first `count` acts
abbrev pub let_go : {B Op : Type 0} → ℕ → Rolled B Op → Rolled B Op
let_go count r = record r { base = r.base + count; kept = drop count r.kept }

-- with what an act makes of it, and all acts that it had
abbrev pub grown : {B Op : Type 0} → Next B Op → Rolled B Op → Rolled B Op
grown next r = record {
  board = next.board;
  table = table_with next.strokes r.table;
  base = r.base;
  kept = marked_all next.mark r.kept ++ next.act ∷ [];
  saves = next.saves;
  spare = r.spare;
}

-- how many acts come before the first that an act may need
abbrev pub needless : {B Op : Type 0} → Rolled B Op → ℕ
needless r = oldest_in r.table - r.base

-- with what an act makes of it, and without the acts that no act may need any more
abbrev pub put_on : {B Op : Type 0} → Next B Op → Rolled B Op → Rolled B Op
put_on next r = let_go (needless (grown next r)) (grown next r)

-- what an act makes of it fits it: it has room for it, the act is the next, and each Point in reach
-- after it has its savepoint
pub record FitsOn {B Op : Type 0} (next : Next B Op) (r : Rolled B Op) : Type 0 where
  pub room : 1 ≤ r.spare
  pub follows : next.strokes.position ≡ r.table.position + 1
  pub enough : r.base ≤ oldest_in (table_with next.strokes r.table)
  pub saved : AreSaved next.strokes.position next.strokes.window.points (points_of next.saves)

-- what an act did to the board, by what it made
abbrev pub change_in : {B Op : Type 0} → Next B Op → Change
change_in next = if next.act.drawn then Drew else (if is_some next.mark then Rebuilt else Nothing)
