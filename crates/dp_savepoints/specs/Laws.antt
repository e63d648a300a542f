-- What the strokes and the flags of a history rest on.
use Rattle.dp_board.specs.Laws.{EachActHasAFlag}
use Rattle.dp_board.specs.Moves.{FlagsGoOn, FlagsMove, FlagsStayBefore, EachActHasAJoin}
use Rattle.dp_board.specs.Table.{TablesGoOn, TablesMove, TablesJoin}

-- the laws of strokes and flags
pub record Laws (Op : Type 0) : Type 0 where
  pub go_on : FlagsGoOn Op
  pub move : FlagsMove Op
  pub stay : FlagsStayBefore Op
  pub flags : EachActHasAFlag Op
  pub joins : EachActHasAJoin Op
  pub next : TablesGoOn Op
  pub moved : TablesMove Op
  pub joined : TablesJoin Op
