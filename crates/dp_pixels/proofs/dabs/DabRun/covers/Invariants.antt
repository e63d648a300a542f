use Rattle.std.proofs.Common.{◌≡◌, false, take}
use Rattle.std.specs.List.{list_any}
use Rattle.dp_pixels.specs.declared.dabs.PlacedDab.{PlacedDab}
use Rattle.dp_pixels.specs.Dabs.{dab_covers, placed_dabs}
use Rattle.dp_pixels.proofs.Strokes.{IsLast}
use Rattle.dp_pixels.proofs.dabs.DabRun.covers.Given as goal

-- the dabs so far don't cover the place
abbrev pub invariant-loop-dab : goal.invariant-loop-dab
invariant-loop-dab l = record {
  last : IsLast l.self.at.x l.self.at.y l.self.dabs.now l.dab-index l.last;
  none : list_any (λ (dab : PlacedDab). dab_covers l.self.shape dab l.place.x l.place.y)
      (take l.dab-index (placed_dabs l.self.at.x l.self.at.y l.self.dabs.now)) ≡ false;
}
