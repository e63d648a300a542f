use Rattle.std.proofs.Common.{◌*◌, ◌≤◌, ◌<◌, ◌-◌}
use Rattle.dp_pixels.proofs.disc.root.Given as goal

-- the square of the root so far is at most the number
abbrev pub invariant-loop-root : goal.invariant-loop-root
invariant-loop-root l = record { square : l.root * l.root ≤ l.square; few : l.root < 256 }

abbrev pub decreases-loop-root : goal.decreases-loop-root
decreases-loop-root l = 256 - l.root
