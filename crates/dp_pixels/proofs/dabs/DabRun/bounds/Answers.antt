use Rattle.std.proofs.Common.{◌∙◌, ap, sym, arith}
use Rattle.std.proofs.lemmas.List.{take_all}
use Rattle.dp_pixels.specs.Dabs.{dab_rect, placed_dabs}
use Rattle.dp_pixels.proofs.Around.{around_by, around_some, rect_more}
use Rattle.dp_pixels.proofs.Strokes.{next_is, length-placed_dabs}
use Rattle.dp_pixels.proofs.dabs.DabRun.bounds.Goals as goal

pub loop-dab-preserved : goal.loop-dab-preserved
loop-dab-preserved c =
    let s = c.args.self in
    let made = c.placed_after-next.ensures in
    let next = next_is s.at.x s.at.y s.dabs.now c.loop-dab.dab-index c.loop-dab.last
    c.placed_after-next.result c.loop-dab-test.true made.value made.near_x made.near_y
    c.loop-dab.invariant.last in
    record {
      last = next.last;
      all = rect_more (placed_dabs s.at.x s.at.y s.dabs.now) c.loop-dab.dab-index
          c.placed_after-next.result c.loop-dab.all c.rect.result c.extended.result next.within
          next.is
          c.loop-dab.invariant.all c.rect.ensures c.extended.ensures;
    }

pub returns-in-Some : goal.returns-in-Some
returns-in-Some c =
    let s = c.args.self in
    let dabs = placed_dabs s.at.x s.at.y s.dabs.now in
    let whole = take_all c.loop-dab.dab-index dabs
    (omega (arith, length-placed_dabs s.at.x s.at.y s.dabs.now, c.loop-dab-test.false)) in
    around_some dabs c.in-Some.rect
    (sym c.in-Some.is ∙ c.loop-dab.invariant.all ∙ ap (around_by dab_rect) whole)
