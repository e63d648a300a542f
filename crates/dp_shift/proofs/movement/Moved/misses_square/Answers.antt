use Rattle.std.proofs.Common.{rules, SFits, w64}
use Rattle.std.specs.Prelude.{pos, ◌+ℤ◌}
use Rattle.std.proofs.lemmas.Int.{to_z-of_z}
use Rattle.dp_pixels.proofs.Rectangles.{IsIn, is_in-false}
use Rattle.dp_shift.proofs.movement.Moved.misses_square.Goals as goal

pub returns-then-misses_stretch : goal.returns-then-misses_stretch
returns-then-misses_stretch c = λ is i j in_x in_y.
    let source = c.args.self.source in
    let x : SFits w64 c.args.x = search rules in
    let x0 : SFits w64 source.x0 = search rules in
    let x1 : SFits w64 source.x1 = search rules in
    let misses = simp to_z-of_z at c.misses_stretch.ensures in
    is_in-false source (c.args.x +ℤ pos i) (c.args.y +ℤ pos j)
    (λ (k : IsIn source (c.args.x +ℤ pos i) (c.args.y +ℤ pos j)). misses is i in_x k.x0 k.x1)

pub returns-else-misses_stretch : goal.returns-else-misses_stretch
returns-else-misses_stretch c = λ is i j in_x in_y.
    let source = c.args.self.source in
    let y : SFits w64 c.args.y = search rules in
    let y0 : SFits w64 source.y0 = search rules in
    let y1 : SFits w64 source.y1 = search rules in
    let misses = simp to_z-of_z at c.misses_stretch-else-misses_stretch.ensures in
    is_in-false source (c.args.x +ℤ pos i) (c.args.y +ℤ pos j)
    (λ (k : IsIn source (c.args.x +ℤ pos i) (c.args.y +ℤ pos j)). misses is j in_y k.y0 k.y1)
