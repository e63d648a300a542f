use Rattle.std.proofs.Common.{◌*◌, ◌+◌, SFits, arith, rules, w64}
use Rattle.std.specs.Prelude.{pos}
use Rattle.std.proofs.lemmas.Int.{ints, to_z-of_z}
use Rattle.dp_pixels.proofs.Rectangles.{is_in-true}
use Rattle.dp_ops.proofs.filing.cells_met.Goals as goal

pub returns-clause-all : goal.returns-clause-all
returns-clause-all c = λ col row i j is in_x in_y t.
    let r = c.args.rect in
    let fx0 : SFits w64 r.x0 = search rules in
    let fx1 : SFits w64 r.x1 = search rules in
    let fy0 : SFits w64 r.y0 = search rules in
    let fy1 : SFits w64 r.y1 = search rules in
    let inside = is_in-true r (pos (col * 64 + i)) (pos (row * 64 + j)) t in
    let x0 = inside.x0 in
    let x1 = inside.x1 in
    let y0 = inside.y0 in
    let y1 = inside.y1 in
    let across = (rw (to_z-of_z w64 r.x0 fx0, to_z-of_z w64 r.x1 fx1) at
    c.tiles_met-left.ensures.all) col is.left is.right (omega (arith, ints, x0, x1))
    (omega (arith, ints, x0, in_x))
    (omega (arith, ints, x1)) in
    let down = (rw (to_z-of_z w64 r.y0 fy0, to_z-of_z w64 r.y1 fy1) at
    c.tiles_met-top.ensures.all) row is.top is.bottom (omega (arith, ints, y0, y1))
    (omega (arith, ints, y0, in_y))
    (omega (arith, ints, y1)) in
    record { left = across.0; right = across.1; top = down.0; bottom = down.1 }
