use Rattle.std.proofs.Common.{◌≡◌}
use Rattle.dp_pixels.specs.Resizes.{pixels_shifted}
use Rattle.dp_layered.proofs.resize.moved_pixels.Given as goal

-- the rows above y are made
abbrev pub invariant-loop-y : goal.invariant-loop-y
invariant-loop-y l =
    l.moved.items ≡ pixels_shifted l.resize.width l.resize.height l.pixels l.resize.new_width l.y
    l.resize.left l.resize.top
