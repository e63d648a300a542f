use Rattle.std.proofs.Common.{◌≡◌}
use Rattle.std.specs.VecDeque.{deque_len}
use Rattle.std.specs.List.Sorted.{IsNonDecreasing}
use Rattle.dp_board.specs.Strokes.{last_few}
use Rattle.dp_board.proofs.window.PointWindow.cut.Given as goal

-- the points that are left have the same last ones
abbrev pub invariant-loop-self : goal.invariant-loop-self
invariant-loop-self l = record {
  depth : l.self-inside.depth ≡ l.fn.self.depth;
  last : last_few l.fn.self.depth l.self-inside.points.items
      ≡ last_few l.fn.self.depth l.fn.self.points;
  rising : IsNonDecreasing l.self-inside.points.items;
}

abbrev pub decreases-loop-self : goal.decreases-loop-self
decreases-loop-self l = deque_len l.self-inside.points
