use Rattle.std.proofs.Common.{ℕ, ◌+◌, ◌*◌, ◌<◌, ◌≤◌, length, ap, ◌∙◌, arith}
use Rattle.std.specs.Prelude.{◌-ℤ◌, unsigned_abs}
use Rattle.dp_pixels.specs.declared.rect.Rect.{Rect}
use Rattle.dp_pixels.proofs.Images.{index_fits}
use Rattle.dp_pixels.proofs.Cells.{cell_row, row_fits, row_in_list}
use Rattle.dp_pixels.proofs.patch.Patch.start.Goals as goal
use Rattle.dp_pixels.proofs.patch.Patch.start.Goals.{After-offset-i}

-- the row of the place is one of the rows
in_rows : (c : After-offset-i) → c.offset-i.result.1 < c.args.self.now.h
in_rows c =
    let p = c.args.self.now in
    cell_row c.args.place.y p.corner.y c.offset-i.result.1 p.h c.requires.bottom
    (c.offset-i.ensures.rows ∙ ap (λ (r : Rect). c.args.place.y -ℤ r.y0) c.at.ensures)

-- the columns are among the columns
in_columns : (c : After-offset-i) → c.offset-i.result.0 + c.args.len ≤ c.args.self.now.w
in_columns c =
    let p = c.args.self.now in
    row_fits c.args.place.x p.corner.x c.offset-i.result.0 c.args.len p.w c.requires.right
    (c.offset-i.ensures.columns ∙ ap (λ (r : Rect). c.args.place.x -ℤ r.x0) c.at.ensures)

pub overflow_mul-result : goal.overflow_mul-result
overflow_mul-result c =
    let p = c.args.self.now in
    let a = (goal.at.overflow_mul-result c).After-offset-i in
    let some = c.requires.some in
    let fits = index_fits c.offset-i.result.1 c.offset-i.result.0 p.w p.h (in_rows a)
    (omega (arith, in_columns a)) (omega arith) (omega arith) in
    record { fits = omega arith }

pub overflow_add-result : goal.overflow_add-result
overflow_add-result c =
    let p = c.args.self.now in
    let a = (goal.at.overflow_add-result c).After-offset-i in
    let some = c.requires.some in
    record {
      fits = index_fits c.offset-i.result.1 c.offset-i.result.0 p.w p.h (in_rows a)
          (omega (arith, in_columns a)) (omega arith) (omega arith);
    }

pub returns-clause-value : goal.returns-clause-value
returns-clause-value c =
    let p = c.args.self.now in
    let place = c.args.place in
    let columns = ap unsigned_abs (c.offset-i.ensures.columns
    ∙ ap (λ (r : Rect). place.x -ℤ r.x0) c.at.ensures) in
    let rows = ap unsigned_abs (c.offset-i.ensures.rows ∙ ap (λ (r : Rect). place.y -ℤ r.y0)
    c.at.ensures) in
    ap (λ (n : ℕ). n * p.w + c.offset-i.result.0) rows ∙ ap
    (λ (n : ℕ). unsigned_abs (place.y -ℤ p.corner.y) * p.w + n) columns

pub returns-clause-within : goal.returns-clause-within
returns-clause-within c =
    let p = c.args.self.now in
    let a = (goal.at.returns-clause-within c).After-offset-i in
    row_in_list (length p.pixels.now) p.w p.h c.offset-i.result.0 c.offset-i.result.1 c.args.len
    p.whole (in_rows a) (in_columns a)
