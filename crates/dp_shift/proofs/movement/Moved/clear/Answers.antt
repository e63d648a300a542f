use Rattle.std.proofs.Common.{◌∙◌, ap, length, get_or, arith, rules, SFits, w64}
use Rattle.std.specs.Prelude.{FitsSigned, pos, ◌+ℤ◌}
use Rattle.std.proofs.lemmas.Int.{to_z-of_z}
use Rattle.std.proofs.lemmas.List.{get_or-replicate, length-replicate}
use Rattle.dp_blend.specs.Color.{clear}
use Rattle.dp_tile.proofs.Areas.{length-part}
use Rattle.dp_shift.proofs.RowLemmas.{row_changes, row_stays}
use Rattle.dp_shift.proofs.movement.Moved.clear.Goals as goal
use Rattle.dp_shift.proofs.movement.Moved.clear.Goals.{else-has_row-via-else-has_row}
use Rattle.dp_shift.proofs.movement.Moved.clear.Goals.{else-has_row-via-then-has_row+else-start-end}

pub returns-then-start-end : goal.returns-then-start-end
returns-then-start-end c = λ pixel are.
    let x : FitsSigned w64 c.args.x = c.ranges.x in
    let y : FitsSigned w64 c.args.y = c.ranges.y in
    let source = c.args.self.source in
    let x0 : SFits w64 source.x0 = search rules in
    let x1 : SFits w64 source.x1 = search rules in
    let row = c.args.row.now in
    let start = c.count_below-start.result in
    let end = c.count_below-end.result in
    let mid = length-part start end row (omega (arith, c.if-start-end.true))
    c.count_below-end.ensures.within in
    let rows = simp to_z-of_z at c.has_row.ensures.yes in
    row_changes source c.args.x c.args.y (length row) start end
    (λ i. pixel (c.args.x +ℤ pos i) c.args.y)
    (λ _. clear) row are (simp to_z-of_z at c.count_below-start.ensures.below)
    (simp to_z-of_z at c.count_below-end.ensures.rest) c.clear_row.new.row c.if-start-end.true
    c.count_below-end.ensures.within (rows c.if-has_row.true).0 (rows c.if-has_row.true).1
    (simp to_z-of_z at c.count_below-start.ensures.rest)
    (simp to_z-of_z at c.count_below-end.ensures.below)
    (ap length c.clear_row.ensures ∙ length-replicate _ clear ∙ mid)
    (λ i few. ap (λ xs. get_or xs i clear) c.clear_row.ensures
    ∙ get_or-replicate _ i clear clear (omega (arith, few, mid)))

pub returns-else-has_row : goal.returns-else-has_row
returns-else-has_row c = λ pixel are.
    let x : FitsSigned w64 c.args.x = c.ranges.x in
    let y : FitsSigned w64 c.args.y = c.ranges.y in
    let source = c.args.self.source in
    let x0 : SFits w64 source.x0 = search rules in
    let x1 : SFits w64 source.x1 = search rules in
    let row = c.args.row.now in
    let off = simp to_z-of_z at c.has_row.ensures.no in
    row_stays source c.args.x c.args.y (length row) c.count_below-start.result
    c.count_below-end.result (λ i. pixel (c.args.x +ℤ pos i) c.args.y) (λ _. clear) row are
    (simp to_z-of_z at c.count_below-start.ensures.below)
    (simp to_z-of_z at c.count_below-end.ensures.rest)
    (λ from to some.
    elim c.else-has_row.branch [
      | else-has_row-via-else-has_row w ↦ off w.if-has_row.false from to
      | else-has_row-via-then-has_row+else-start-end w ↦ omega (arith, some, w.if-start-end.false)
    ])
