use Rattle.std.proofs.Common.{◌≡◌, take}
use Rattle.dp_pixels.specs.Dabs.{dab_rect, placed_dabs}
use Rattle.dp_pixels.proofs.Around.{around_by}
use Rattle.dp_pixels.proofs.Strokes.{IsLast}
use Rattle.dp_pixels.proofs.dabs.DabRun.bounds.Given as goal

-- the place of the last dab, and the rectangle around the dabs so far
abbrev pub invariant-loop-dab : goal.invariant-loop-dab
invariant-loop-dab l = record {
  last : IsLast l.self.at.x l.self.at.y l.self.dabs.now l.dab-index l.last;
  all : l.all ≡ around_by dab_rect (take l.dab-index
      (placed_dabs l.self.at.x l.self.at.y l.self.dabs.now));
}
