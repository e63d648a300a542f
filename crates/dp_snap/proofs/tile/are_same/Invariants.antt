use Rattle.std.proofs.Common.{◌≡◌, true}
use Rattle.std.specs.List.{list_all}
use Rattle.dp_snap.specs.Tiles.{is_same, on_canvas}
use Rattle.dp_snap.proofs.tile.are_same.Given as goal

-- the rows above y are this pixel
abbrev pub invariant-loop-y : goal.invariant-loop-y
invariant-loop-y l = list_all (is_same l.pixel) (on_canvas l.cols l.y l.tile) ≡ true
