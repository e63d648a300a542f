use Rattle.std.proofs.Common.{◌≡◌, ◌+◌, ◌≤◌, length, take, drop}
use Rattle.std.specs.List.{fold}
use Rattle.dp_savepoints.specs.Kept.{drawn_among, commands_among}
use Rattle.dp_trailing.proofs.trailing.draw_kept.Given as goal

-- the acts so far are drawn
abbrev pub invariant-loop-next : goal.invariant-loop-next
invariant-loop-next g l = record {
  board : l.board ≡ fold g.B.Board.drawn l.fn.board (drawn_among (take l.next-index l.kept));
  draws_rise : l.fn.draws ≤ l.draws;
  few_draws : l.draws + length (commands_among (drop l.next-index l.kept))
      ≤ l.fn.draws + length (commands_among l.kept);
  tiles_rise : l.fn.tiles ≤ l.tiles;
}
