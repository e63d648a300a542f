use Rattle.std.proofs.Common.{◌≡◌, take}
use Rattle.dp_pixels.specs.Dabs.{placed_dabs}
use Rattle.dp_pixels.specs.Commands.{dabs_blended}
use Rattle.dp_pixels.proofs.Strokes.{IsLast}
use Rattle.dp_pixels.proofs.dabs.DabRun.pixel_after.Given as goal

-- the dabs so far are blended
abbrev pub invariant-loop-dab : goal.invariant-loop-dab
invariant-loop-dab l = record {
  last : IsLast l.self.at.x l.self.at.y l.self.dabs.now l.dab-index l.last;
  blended : l.pixel ≡ dabs_blended l.self.shape l.mode l.source
      (take l.dab-index (placed_dabs l.self.at.x l.self.at.y l.self.dabs.now)) l.place.x l.place.y
      l.fn.old;
}
