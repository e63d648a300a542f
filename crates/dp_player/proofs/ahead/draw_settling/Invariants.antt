use Rattle.std.proofs.Common.{◌≡◌, ◌-◌, ◌≤◌, length, drop}
use Rattle.std.specs.List.{fold}
use Rattle.dp_plain.specs.Commands.{draw}
use Rattle.dp_savepoints.specs.Kept.{drawn_among}
use Rattle.dp_player.proofs.ahead.draw_settling.Given as goal

-- with the acts that are left it is the board after all
abbrev pub invariant-loop-done : goal.invariant-loop-done
invariant-loop-done g l = record {
  inside : l.done ≤ length l.acts;
  drawn : fold draw l.board (drawn_among (drop l.done l.acts))
      ≡ fold draw l.fn.board (drawn_among l.acts);
}

abbrev pub decreases-loop-done : goal.decreases-loop-done
decreases-loop-done g l = length l.acts - l.done
