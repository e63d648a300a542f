use Rattle.std.proofs.Common.{ap, ◌∙◌, subst, rules, SFits, w64}
use Rattle.std.specs.Prelude.{ℤ}
use Rattle.std.proofs.lemmas.Int.{to_z-of_z}
use Rattle.dp_pixels.specs.declared.rect.Rect.{Rect}
use Rattle.dp_pixels.specs.Clips.{IsCountBelow}
use Rattle.dp_pixels.specs.Rectangles.{clipped}
use Rattle.dp_pixels.proofs.region.Region.clip.Goals as goal

pub returns : goal.returns
returns c =
    let w = c.args.self.now in
    let area = c.clipped-area.result in
    let is = c.clipped-area.ensures ∙ ap (clipped c.args.bounds) c.canvas.ensures in
    let x0 : SFits w64 area.x0 = search rules in
    let x1 : SFits w64 area.x1 = search rules in
    let y0 : SFits w64 area.y0 = search rules in
    let y1 : SFits w64 area.y1 = search rules in
    record {
      left = subst (λ (z : ℤ). IsCountBelow z w.x w.width c.count_below.result)
          (to_z-of_z w64 area.x0 x0 ∙ ap (λ (r : Rect). r.x0) is) c.count_below.ensures;
      right = subst (λ (z : ℤ). IsCountBelow z w.x w.width c.count_below-2.result)
          (to_z-of_z w64 area.x1 x1 ∙ ap (λ (r : Rect). r.x1) is) c.count_below-2.ensures;
      top = subst (λ (z : ℤ). IsCountBelow z w.y w.height c.count_below-3.result)
          (to_z-of_z w64 area.y0 y0 ∙ ap (λ (r : Rect). r.y0) is) c.count_below-3.ensures;
      bottom = subst (λ (z : ℤ). IsCountBelow z w.y w.height c.count_below-4.result)
          (to_z-of_z w64 area.y1 y1 ∙ ap (λ (r : Rect). r.y1) is) c.count_below-4.ensures;
    }
