use Rattle.std.proofs.Common.{take}
use Rattle.dp_pixels.specs.Dabs.{placed_dabs}
use Rattle.dp_pixels.specs.Commands.{dabs_blended}
use Rattle.dp_pixels.specs.Regions.{IsPainted, on_canvas}
use Rattle.dp_pixels.proofs.Strokes.{IsLast}
use Rattle.dp_pixels.proofs.draw.dab_run_region.Given as goal

-- the dabs so far are drawn
abbrev pub invariant-loop-dab : goal.invariant-loop-dab
invariant-loop-dab l = record {
  last : IsLast l.run.at.x l.run.at.y l.run.dabs.now l.dab-index l.last;
  drawn : IsPainted l.region l.stride (on_canvas l.region
      (dabs_blended l.brush.shape l.brush.mode l.brush.color (take l.dab-index
      (placed_dabs l.run.at.x l.run.at.y l.run.dabs.now)))) l.initial.pixels l.pixels;
}
