use Rattle.std.proofs.Common.{◌≡◌, ◌∙◌, true, ap, subst, sym, arith, w64}
use Rattle.std.specs.Prelude.{FitsSigned, pos, ◌+ℤ◌}
use Rattle.std.proofs.lemmas.Int.{ints, to_z-of_z}
use Rattle.dp_pixels.specs.Feet.{on_greatest}
use Rattle.dp_pixels.specs.Rectangles.{is_in}
use Rattle.dp_shift.proofs.Shown.{clear_at}
use Rattle.dp_shift.proofs.reading.Shown.is_clear.Goals as goal

pub returns : goal.returns
returns c = λ yes i j few_x few_y.
    let x : FitsSigned w64 c.args.x = c.ranges.x in
    let y : FitsSigned w64 c.args.y = c.ranges.y in
    let square = c.on_greatest.ensures.value
    ∙ ap on_greatest (simp to_z-of_z at c.tile_square-square.ensures) in
    clear_at c.args.self.width c.args.self.height c.args.self.grid.now c.args.self.of c.args.x
    c.args.y c.cells_in-area.result
    (λ a b in_x in_y is. c.cells_in-area.ensures.all a b (rw c.cols.ensures in_x)
    (rw c.rows.ensures in_y) (subst (λ r. is_in r (pos a) (pos b) ≡ true) (sym square) is))
    (c.has_none_in.ensures yes) (c.args.x +ℤ pos i) (c.args.y +ℤ pos j)
    (omega (arith, ints)) (omega (arith, ints, few_x)) (omega (arith, ints))
    (omega (arith, ints, few_y))
