use Rattle.std.proofs.Common.{◌≡◌, ◌+◌, ◌*◌, ◌≤◌}
use Rattle.dp_canvas.proofs.settle.settle_half_full.Given as goal

-- the board is the same, and each layer before the place has few tiles more
abbrev pub invariant-loop-k : goal.invariant-loop-k
invariant-loop-k g l = record {
  same : l.board ≡ l.initial.board;
  rise : l.initial.tiles ≤ l.tiles;
  few : l.tiles ≤ l.initial.tiles + l.k * 4096;
}
