use Rattle.std.proofs.Common.{◌≡◌, List, take, cond, arith, ap, ◌∙◌, sym}
use Rattle.std.proofs.lemmas.Bool.{cond-true, cond-false}
use Rattle.std.proofs.lemmas.List.{take_all}
use Rattle.std.proofs.lemmas.List.Sums.{fold_more}
use Rattle.dp_blend.specs.Color.{Channels, from8, fade}
use Rattle.dp_blend.specs.Blending.{blend}
use Rattle.dp_pixels.specs.declared.dabs.PlacedDab.{PlacedDab}
use Rattle.dp_pixels.specs.Dabs.{dab_covers, placed_dabs}
use Rattle.dp_pixels.specs.Commands.{dabs_blended}
use Rattle.dp_pixels.proofs.Strokes.{IsNext, next_is, length-placed_dabs}
use Rattle.dp_pixels.proofs.dabs.DabRun.pixel_after.Goals as goal
use Rattle.dp_pixels.proofs.dabs.DabRun.pixel_after.Goals.{After-placed_after-placed, then-covers}
use Rattle.dp_pixels.proofs.dabs.DabRun.pixel_after.Goals.{else-covers}

-- the dab is the next of the list
next : (c : After-placed_after-placed) → IsNext c.args.self.at.x c.args.self.at.y
    c.args.self.dabs.now c.loop-dab.dab-index c.placed_after-placed.result
next c =
    let s = c.args.self in
    let made = c.placed_after-placed.ensures in
    next_is s.at.x s.at.y s.dabs.now c.loop-dab.dab-index c.loop-dab.last
    c.placed_after-placed.result c.loop-dab-test.true made.value made.near_x made.near_y
    c.loop-dab.invariant.last

pub covers-requires : goal.covers-requires
covers-requires c =
    let near = (next (goal.at.covers-requires c).After-placed_after-placed).last.near in
    let short = c.args.self.short in
    let test = c.loop-dab-test.true in
    record { x = omega (arith, near.x, short, test); y = omega (arith, near.y, short, test) }

pub loop-dab-preserved : goal.loop-dab-preserved
loop-dab-preserved c =
    let s = c.args.self in
    let is_next = next (goal.at.loop-dab-preserved c).After-placed_after-placed in
    let dabs = placed_dabs s.at.x s.at.y s.dabs.now in
    let step = λ (under : Channels) (dab : PlacedDab).
    cond (dab_covers s.shape dab c.args.place.x c.args.place.y)
    (blend c.args.mode (fade c.args.source (from8 dab.opacity)) under) under in
    let here : c.if-covers.pixel ≡ step c.loop-dab.pixel c.placed_after-placed.result =
    elim c.if-covers.branch [
      | then-covers w ↦ w.pixel-is
          ∙ (w.blend-pixel.ensures.value
          ∙ (ap (λ (p : Channels). blend c.args.mode p c.loop-dab.pixel)
          (w.fade.ensures.value ∙ ap (fade c.args.source) w.from8.ensures.value)
          ∙ sym
          (cond-true (dab_covers s.shape c.placed_after-placed.result c.args.place.x c.args.place.y)
          _ c.loop-dab.pixel (sym c.covers.ensures ∙ w.if-covers.true))))
      | else-covers w ↦ w.pixel-is
          ∙ sym (cond-false (dab_covers s.shape c.placed_after-placed.result c.args.place.x
          c.args.place.y) _ c.loop-dab.pixel (sym c.covers.ensures ∙ w.if-covers.false))
    ] in
    record {
      last = is_next.last;
      blended = here
          ∙ (ap (λ (p : Channels). step p c.placed_after-placed.result) c.loop-dab.invariant.blended
          ∙ (ap (step (dabs_blended s.shape c.args.mode c.args.source
          (take c.loop-dab.dab-index dabs) c.args.place.x c.args.place.y c.args.old))
          (sym is_next.is)
          ∙ sym (fold_more step c.args.old dabs c.loop-dab.dab-index c.placed_after-placed.result
          is_next.within)));
    }

pub returns : goal.returns
returns c =
    let s = c.args.self in
    c.loop-dab.invariant.blended
    ∙ ap (λ (l : List PlacedDab). dabs_blended s.shape c.args.mode c.args.source l c.args.place.x
    c.args.place.y c.args.old)
    (take_all c.loop-dab.dab-index (placed_dabs s.at.x s.at.y s.dabs.now)
    (omega (arith, length-placed_dabs s.at.x s.at.y s.dabs.now)))
