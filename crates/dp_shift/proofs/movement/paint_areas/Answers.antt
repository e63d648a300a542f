use Rattle.std.proofs.Common.{arith}
use Rattle.dp_shift.specs.Reading.{ArePainted, moved_part, shown}
use Rattle.dp_shift.proofs.Moving.{first_stays}
use Rattle.dp_shift.proofs.movement.paint_areas.Goals as goal

pub returns-clause-few_shown : goal.returns-clause-few_shown
returns-clause-few_shown g c =
    let m = c.args.moved.now in
    let old = shown m.old.width m.old.height m.old.grid.now in
    let pixel = moved_part m.source m.right m.down old in
    let new = c.paint_each-2.new.self in
    let first = c.in_ok-paint_each.ensures in
    let second = c.in_ok-paint_each-2.ensures in
    let are : ArePainted c.args.from c.args.to pixel c.args.grid.now new =
    record { between = c.paint_each.new.self; first = first.painted; second = second.painted } in
    let of = c.requires.from in
    let to = c.requires.to in
    let law = c.an_area_shows_at_most_its_grid.ensures in
    let same = c.same_cells_show_alike.ensures c.args.from c.paint_each.new.self new
    (first_stays c.args.from c.args.to pixel c.args.grid.now new are of) in
    let of_from = law new c.args.from c.known.ensures of.across of.down
    (omega (arith, of.cols, first.painted.cols, second.painted.cols))
    (omega (arith, of.rows, first.painted.rows, second.painted.rows)) in
    let of_to = law new c.args.to c.known.ensures to.across to.down
    (omega (arith, to.cols, first.painted.cols, second.painted.cols))
    (omega (arith, to.rows, first.painted.rows, second.painted.rows)) in
    omega (arith, first.few_shown, second.few_shown, same, of_from, of_to)
