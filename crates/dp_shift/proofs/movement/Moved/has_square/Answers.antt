use Rattle.std.proofs.Common.{rules, SFits, w64}
use Rattle.std.specs.Prelude.{pos, ◌+ℤ◌}
use Rattle.std.proofs.lemmas.Int.{to_z-of_z}
use Rattle.dp_pixels.proofs.Rectangles.{is_in_by}
use Rattle.dp_shift.proofs.movement.Moved.has_square.Goals as goal

pub returns-then-has_stretch : goal.returns-then-has_stretch
returns-then-has_stretch c = λ is i j in_x in_y.
    let source = c.args.self.source in
    let x : SFits w64 c.args.x = search rules in
    let y : SFits w64 c.args.y = search rules in
    let x0 : SFits w64 source.x0 = search rules in
    let x1 : SFits w64 source.x1 = search rules in
    let y0 : SFits w64 source.y0 = search rules in
    let y1 : SFits w64 source.y1 = search rules in
    let across = (simp to_z-of_z at c.has_stretch.ensures) c.if-has_stretch.true i in_x in
    let down = (simp to_z-of_z at c.has_stretch-then-has_stretch.ensures) is j in_y in
    is_in_by source (c.args.x +ℤ pos i) (c.args.y +ℤ pos j)
    (record { x0 = across.0; x1 = across.1; y0 = down.0; y1 = down.1 })
