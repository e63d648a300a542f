use Rattle.std.proofs.Common.{◌≡◌, ◌+◌, ◌≤◌, length, map, drop}
use Rattle.std.specs.List.{fold, sum_by}
use Rattle.dp_savepoints.specs.Kept.{marked, drawn_among, commands_among}
use Rattle.dp_savepoints.proofs.redraw.redraw.Given as goal

-- what is drawn and what is left make the whole
abbrev pub invariant-loop-next : goal.invariant-loop-next
invariant-loop-next g l = record {
  left : fold g.B.Board.drawn l.board
      (drawn_among (map (marked l.mark) (drop l.next-index l.kept)))
      ≡ fold g.B.Board.drawn l.fn.board (drawn_among (map (marked l.mark) l.kept));
  draws_rise : l.fn.draws ≤ l.draws;
  few_draws : l.draws + length (commands_among (drop l.next-index l.kept))
      ≤ l.fn.draws + length (commands_among l.kept);
  tiles_rise : l.fn.tiles ≤ l.tiles;
  few_tiles : l.tiles + sum_by g.B.Board.weight (commands_among (drop l.next-index l.kept))
      ≤ l.fn.tiles + sum_by g.B.Board.weight (commands_among l.kept);
}
