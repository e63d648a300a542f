use Rattle.std.proofs.Common.{◌∙◌, ap, rules, SFits, w64}
use Rattle.std.proofs.lemmas.Int.{to_z-of_z}
use Rattle.dp_pixels.specs.Rectangles.{clipped}
use Rattle.dp_shift.specs.Reading.{shifted}
use Rattle.dp_shift.proofs.movement.Moved.target_in.Goals as goal

pub returns : goal.returns
returns c =
    let m = c.args.self in
    let right : SFits w64 m.right = search rules in
    let down : SFits w64 m.down = search rules in
    let target = shifted m.source m.right m.down in
    c.clipped-2.ensures
    ∙ ap (λ r. clipped r c.canvas.result)
    (c.clipped.ensures ∙ ap (clipped c.args.to) (simp to_z-of_z at c.shifted_rect.ensures))
    ∙ ap (clipped (clipped c.args.to target)) c.canvas.ensures
