use Rattle.std.proofs.Common.{◌/◌, ◌-◌, refl, rules, SFits, w64}
use Rattle.std.specs.Prelude.{pos}
use Rattle.std.proofs.Math.Nat.{mul_comm, mul-le-mul}
use Rattle.std.proofs.lemmas.Bool.{le-leb, lt-ltb}
use Rattle.std.proofs.lemmas.Int.{to_z-of_z}
use Rattle.dp_pixels.proofs.Rectangles.{is_in-true}
use Rattle.dp_shift.proofs.cells.cells_in.Goals as goal

pub returns-clause-few : goal.returns-clause-few
returns-clause-few c =
    let r = c.args.area in
    let x0 : SFits w64 r.x0 = search rules in
    let x1 : SFits w64 r.x1 = search rules in
    let y0 : SFits w64 r.y0 = search rules in
    let y1 : SFits w64 r.y1 = search rules in
    let left = c.tiles_between-left.result in
    let top = c.tiles_between-top.result in
    rw (mul_comm (top.1 - top.0) (left.1 - left.0))
    (mul-le-mul
    (rw (to_z-of_z w64 r.x0 x0, to_z-of_z w64 r.x1 x1) at c.tiles_between-left.ensures.few)
    (rw (to_z-of_z w64 r.y0 y0, to_z-of_z w64 r.y1 y1) at c.tiles_between-top.ensures.few))

pub returns-clause-all : goal.returns-clause-all
returns-clause-all c = λ x y in_x in_y is.
    let r = c.args.area in
    let x0 : SFits w64 r.x0 = search rules in
    let x1 : SFits w64 r.x1 = search rules in
    let y0 : SFits w64 r.y0 = search rules in
    let y1 : SFits w64 r.y1 = search rules in
    let inside = is_in-true r (pos x) (pos y) is in
    let across = c.tiles_between-left.ensures.all x in_x (rw (to_z-of_z w64 r.x0 x0) inside.x0)
    (rw (to_z-of_z w64 r.x1 x1) inside.x1) in
    let down = c.tiles_between-top.ensures.all y in_y (rw (to_z-of_z w64 r.y0 y0) inside.y0)
    (rw (to_z-of_z w64 r.y1 y1) inside.y1) in
    rw (
      le-leb c.tiles_between-left.result.0 (x / 64) across.0,
      lt-ltb (x / 64) c.tiles_between-left.result.1 across.1,
      le-leb c.tiles_between-top.result.0 (y / 64) down.0,
      lt-ltb (y / 64) c.tiles_between-top.result.1 down.1,
    ) refl
