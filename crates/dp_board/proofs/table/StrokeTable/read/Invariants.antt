use Rattle.std.proofs.Common.{◌≡◌, ◌<◌, [], ◌++◌, take, drop}
use Rattle.std.specs.List.{All}
use Rattle.dp_board.specs.Joins.{joins_from}
use Rattle.dp_board.specs.Table.{HasStrokes}
use Rattle.dp_board.proofs.table.StrokeTable.read.Given as goal

-- the strokes are those that the acts so far leave, and the joins so far and those of the rest are
-- those of all
abbrev pub invariant-loop-act : goal.invariant-loop-act
invariant-loop-act g l = record {
  in_range : All (λ act. act.user < 256) (take l.act-index l.acts);
  position : l.table.position ≡ l.act-index;
  strokes : HasStrokes l.depth (take l.act-index l.acts) l.table;
  joins : l.joins.items ++ joins_from l.depth (take l.act-index l.acts) (drop l.act-index l.acts)
      ≡ joins_from l.depth [] l.acts;
}
