use Rattle.std.proofs.Common.{refl, rules, SFits, w64}
use Rattle.std.specs.Prelude.{◌+ℤ◌}
use Rattle.std.proofs.lemmas.Int.{to_z-of_z}
use Rattle.dp_shift.proofs.movement.shifted_rect.Goals as goal

pub returns : goal.returns
returns c =
    let r = c.args.rect in
    let near_x0 = c.requires.near.left in
    let near_y0 = c.requires.near.top in
    let near_x1 = c.requires.near.right in
    let near_y1 = c.requires.near.bottom in
    let x0 : SFits w64 r.x0 = search rules in
    let y0 : SFits w64 r.y0 = search rules in
    let x1 : SFits w64 r.x1 = search rules in
    let y1 : SFits w64 r.y1 = search rules in
    let right : SFits w64 c.args.right = search rules in
    let down : SFits w64 c.args.down = search rules in
    let to_x0 : SFits w64 (r.x0 +ℤ c.args.right) = search rules in
    let to_y0 : SFits w64 (r.y0 +ℤ c.args.down) = search rules in
    let to_x1 : SFits w64 (r.x1 +ℤ c.args.right) = search rules in
    let to_y1 : SFits w64 (r.y1 +ℤ c.args.down) = search rules in
    simp to_z-of_z refl
