use Rattle.std.proofs.Common.{◌≡◌, ◌+◌, ◌-◌, ◌≤◌, length, take}
use Rattle.std.specs.Prelude.{sum_by}
use Rattle.dp_pixels.specs.Feet.{reach}
use Rattle.dp_plain.specs.Commands.{draw_all}
use Rattle.dp_canvas.proofs.batch.draw_in_order.Given as goal

-- the commands before the place are drawn
abbrev pub invariant-runs : goal.invariant-runs
invariant-runs g l = record {
  within : l.from ≤ length l.ops;
  board : l.canvas ≡ draw_all l.initial.canvas (take l.from l.ops);
  draws : l.draws ≡ l.initial.draws + l.from;
  rise : l.initial.tiles ≤ l.tiles;
  few : l.tiles ≤ l.initial.tiles + sum_by reach (take l.from l.ops);
}

abbrev pub decreases-runs : goal.decreases-runs
decreases-runs g l = length l.ops - l.from
