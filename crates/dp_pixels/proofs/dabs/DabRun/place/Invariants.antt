use Rattle.std.proofs.Common.{◌≡◌, map, take}
use Rattle.dp_pixels.specs.declared.dabs.NearDab.{NearDab}
use Rattle.dp_pixels.specs.Dabs.{placed_dabs}
use Rattle.dp_pixels.proofs.Strokes.{IsLast}
use Rattle.dp_pixels.proofs.dabs.DabRun.place.Given as goal

-- the dabs so far are placed
abbrev pub invariant-loop-dab : goal.invariant-loop-dab
invariant-loop-dab l = record {
  last : IsLast l.self.at.x l.self.at.y l.self.dabs.now l.dab-index l.last;
  placed : map (λ (near : NearDab). near.dab) l.placed.items
      ≡ take l.dab-index (placed_dabs l.self.at.x l.self.at.y l.self.dabs.now);
}
