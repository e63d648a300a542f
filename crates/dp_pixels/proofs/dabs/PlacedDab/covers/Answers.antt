use Rattle.std.proofs.Common.{arith, ap, ◌∙◌, sym, rules, SFits, w64}
use Rattle.std.proofs.lemmas.Int.{ints}
use Rattle.dp_pixels.specs.declared.rect.Rect.{Rect}
use Rattle.dp_pixels.specs.declared.dabs.Shape.{Shape}
use Rattle.dp_pixels.specs.Dabs.{dab_covers}
use Rattle.dp_pixels.proofs.Rectangles.{is_in-true}
use Rattle.dp_pixels.proofs.Cells.{IsCell, is_cell, round_covers_cell}
use Rattle.dp_pixels.proofs.dabs.PlacedDab.covers.Goals as goal
use Rattle.dp_pixels.proofs.dabs.PlacedDab.covers.Goals.{Then-contains}

-- the column of the place is one of the dab's
column : (c : Then-contains) → IsCell c.args.place.x c.rect-cells.result.x0 c.args.self.size
column c =
    let x_fits : SFits w64 c.args.place.x = search rules in
    let left_fits : SFits w64 c.rect-cells.result.x0 = search rules in
    let inside = is_in-true c.rect-cells.result c.args.place.x c.args.place.y cc in
    let right = ap (λ (r : Rect). r.x1) c.rect-cells.ensures in
    let left = ap (λ (r : Rect). r.x0) c.rect-cells.ensures in
    is_cell c.args.place.x c.rect-cells.result.x0 c.args.self.size x_fits left_fits (omega arith)
    inside.x0 (omega (arith, ints))

-- and its row
row : (c : Then-contains) → IsCell c.args.place.y c.rect-cells.result.y0 c.args.self.size
row c =
    let y_fits : SFits w64 c.args.place.y = search rules in
    let top_fits : SFits w64 c.rect-cells.result.y0 = search rules in
    let inside = is_in-true c.rect-cells.result c.args.place.x c.args.place.y cc in
    let bottom = ap (λ (r : Rect). r.y1) c.rect-cells.ensures in
    let top = ap (λ (r : Rect). r.y0) c.rect-cells.ensures in
    is_cell c.args.place.y c.rect-cells.result.y0 c.args.self.size y_fits top_fits (omega arith)
    inside.y0 (omega (arith, ints))

pub overflow_cast-place : goal.overflow_cast-place
overflow_cast-place c =
    let cell = column (goal.at.overflow_cast-place c).Then-contains in
    (cell.not_negative, omega arith)

pub overflow_sub-place-then-contains : goal.overflow_sub-place-then-contains
overflow_sub-place-then-contains c = (row (goal.at.overflow_sub-place-then-contains
    c).Then-contains).fits

pub overflow_cast-place-then-contains : goal.overflow_cast-place-then-contains
overflow_cast-place-then-contains c =
    let cell = row (goal.at.overflow_cast-place-then-contains c).Then-contains in
    (cell.not_negative, omega arith)

pub is_in_disc-requires-clause-column : goal.is_in_disc-requires-clause-column
is_in_disc-requires-clause-column c = (column (goal.at.is_in_disc-requires-clause-column
    c).Then-contains).small

pub is_in_disc-requires-clause-row : goal.is_in_disc-requires-clause-row
is_in_disc-requires-clause-row c = (row (goal.at.is_in_disc-requires-clause-row
    c).Then-contains).small

pub returns-then-contains : goal.returns-then-contains
returns-then-contains c =
    let across = column (goal.at.returns-then-contains c).Then-contains in
    let down = row (goal.at.returns-then-contains c).Then-contains in
    c.is_in_disc.ensures
    ∙ (round_covers_cell c.args.self c.rect-cells.result c.args.place.x c.args.place.y _ _
    c.rect-cells.ensures (cc) across.value down.value
    ∙ ap (λ (shape : Shape). dab_covers shape c.args.self c.args.place.x c.args.place.y)
    (sym c.in-Round.is))
