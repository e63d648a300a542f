use Rattle.std.proofs.Common.{◌∙◌, arith}
use Rattle.std.proofs.lemmas.List.{take_all}
use Rattle.dp_pixels.specs.declared.dabs.NearDab.{NearDab}
use Rattle.dp_pixels.specs.Dabs.{placed_dabs}
use Rattle.dp_pixels.proofs.Strokes.{next_is, placed_more, length-placed_dabs}
use Rattle.dp_pixels.proofs.dabs.DabRun.place.Goals as goal

pub loop-dab-preserved : goal.loop-dab-preserved
loop-dab-preserved c =
    let s = c.args.self in
    let made = c.placed_after-next.ensures in
    let next = next_is s.at.x s.at.y s.dabs.now c.loop-dab.dab-index c.loop-dab.last
    c.placed_after-next.result c.loop-dab-test.true made.value made.near_x made.near_y
    c.loop-dab.invariant.last in
    record {
      last = next.last;
      placed = placed_more (λ (near : NearDab). near.dab) c.loop-dab.placed.items
          c.push.new.self.items _ (placed_dabs s.at.x s.at.y s.dabs.now) c.loop-dab.dab-index
          next.within next.is c.in_ok-push.ensures.items c.loop-dab.invariant.placed;
    }

pub returns : goal.returns
returns c =
    let s = c.args.self in
    c.loop-dab.invariant.placed
    ∙ take_all c.loop-dab.dab-index (placed_dabs s.at.x s.at.y s.dabs.now)
    (omega (arith, c.loop-dab-test.false, length-placed_dabs s.at.x s.at.y s.dabs.now))
