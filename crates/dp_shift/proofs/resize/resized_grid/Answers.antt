use Rattle.std.proofs.Common.{arith, rules, SFits, w32}
use Rattle.std.proofs.lemmas.Int.{to_z-of_z}
use Rattle.dp_tile.specs.declared.area.CellArea.{CellArea}
use Rattle.dp_shift.proofs.Resized.{is_resized}
use Rattle.dp_shift.proofs.resize.resized_grid.Goals as goal

pub returns-clause-resized : goal.returns-clause-resized
returns-clause-resized g c =
    let left : SFits w32 c.args.change.left = search rules in
    let top : SFits w32 c.args.change.top = search rules in
    let painted = simp (
      to_z-of_z,
      c.in_ok-resized.ensures,
      c.cols.ensures,
      c.rows.ensures,
    ) at c.in_ok-paint_each.ensures.painted in
    is_resized c.args.change c.args.grid.now c.paint_each.new.self c.args.change.narrow
    c.args.change.low painted

pub returns-clause-few_shown : goal.returns-clause-few_shown
returns-clause-few_shown g c =
    let all : CellArea =
    record { left = 0; right = c.cols.result; top = 0; bottom = c.rows.result } in
    let painted = c.in_ok-paint_each.ensures.painted in
    omega (
      arith,
      c.in_ok-paint_each.ensures.few_shown,
      c.an_area_shows_at_most_its_grid.ensures c.paint_each.new.self all c.known.ensures
          (omega arith) (omega arith) (omega (arith, painted.cols, c.cols.ensures))
          (omega (arith, painted.rows, c.rows.ensures)),
    )
