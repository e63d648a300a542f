use Rattle.std.proofs.Common.{◌∙◌, ap, pos, rules, SFits, w32}
use Rattle.std.proofs.lemmas.Int.{to_z-of_z}
use Rattle.dp_pixels.specs.declared.feet.Footprint.TheVariants.{Two}
use Rattle.dp_pixels.specs.declared.rect.Rect.{Rect}
use Rattle.dp_pixels.specs.Feet.{on_greatest}
use Rattle.dp_pixels.specs.Rectangles.{rect_at}
use Rattle.dp_pixels.proofs.feet.foot_of_move.Goals as goal

pub returns : goal.returns
returns c =
    let a = c.args in
    let tx : SFits w32 a.tx = search rules in
    let ty : SFits w32 a.ty = search rules in
    let source = c.on_greatest.ensures ∙ ap on_greatest c.rect_of.ensures in
    let target = simp to_z-of_z at c.target_rect.ensures in
    ap (λ (r : Rect). Two a.layer r c.target_rect.result) source
    ∙ ap (λ (r : Rect). Two a.layer (on_greatest (rect_at (pos a.sx) (pos a.sy) a.w a.h)) r)
    target
