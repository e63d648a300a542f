use Rattle.std.proofs.Common.{◌∙◌, ◌+◌, ◌-◌, ◌≡◌, ◌≤◌, ℕ, take, drop, ap}
use Rattle.std.proofs.Common.{length, get_or, arith, rules, SFits, w64}
use Rattle.std.specs.Prelude.{FitsSigned, ℤ, pos, ◌+ℤ◌}
use Rattle.std.proofs.lemmas.Int.{ints, to_z-of_z}
use Rattle.dp_blend.specs.Color.{clear}
use Rattle.dp_blend.specs.Blending.{blend}
use Rattle.dp_blend.specs.declared.modes.Mode.TheVariants.{Normal}
use Rattle.dp_shift.specs.Reading.{shown}
use Rattle.dp_tile.proofs.Areas.{get_or-part, length-part}
use Rattle.dp_shift.proofs.RowLemmas.{row_changes, row_stays}
use Rattle.dp_blend.proofs.Parts.{pixel_of_part}
use Rattle.dp_shift.proofs.movement.Moved.lay_source.Goals as goal
use Rattle.dp_shift.proofs.movement.Moved.lay_source.Goals.{else-has_row-via-else-has_row}
use Rattle.dp_shift.proofs.movement.Moved.lay_source.Goals.{else-has_row-via-then-has_row+else-start-end}

-- a place i after another one
at_place : (x z : ℤ) (start i : ℕ) → z ≡ x +ℤ pos start → z +ℤ pos i ≡ x +ℤ pos (start + i)
at_place x z start i is = omega (arith, ints, is)

pub returns-then-start-end : goal.returns-then-start-end
returns-then-start-end c = λ under are.
    let x : FitsSigned w64 c.args.x = c.ranges.x in
    let y : FitsSigned w64 c.args.y = c.ranges.y in
    let source = c.args.self.source in
    let old = shown c.args.self.old.width c.args.self.old.height c.args.self.old.grid.now in
    let x0 : SFits w64 source.x0 = search rules in
    let x1 : SFits w64 source.x1 = search rules in
    let row = c.args.row.now in
    let start = c.count_below-start.result in
    let end = c.count_below-end.result in
    let from : SFits w64 c.place_after.result = search rules in
    let at = simp to_z-of_z at c.place_after.ensures.value in
    let order : start ≤ end = omega (arith, c.if-start-end.true) in
    let mid = length-part start end row order c.count_below-end.ensures.within in
    let rows = simp to_z-of_z at c.has_row.ensures.yes in
    row_changes source c.args.x c.args.y (length row) start end under
    (λ i. blend Normal (old (c.args.x +ℤ pos i) c.args.y) (under i)) row are
    (simp to_z-of_z at c.count_below-start.ensures.below)
    (simp to_z-of_z at c.count_below-end.ensures.rest) c.lay_part.new.row c.if-start-end.true
    c.count_below-end.ensures.within (rows c.if-has_row.true).0 (rows c.if-has_row.true).1
    (simp to_z-of_z at c.count_below-start.ensures.rest)
    (simp to_z-of_z at c.count_below-end.ensures.below)
    (c.lay_part.ensures.len ∙ mid)
    (λ i few. (simp to_z-of_z at c.lay_part.ensures.places) i (rw mid few)
    ∙ ap (λ z. blend Normal (old z c.args.y) (get_or (take (end - start) (drop start row)) i clear))
    (at_place c.args.x c.place_after.result start i at)
    ∙ ap (blend Normal (old (c.args.x +ℤ pos (start + i)) c.args.y))
    (get_or-part start end row order c.count_below-end.ensures.within i clear few
    ∙ ap (λ all. get_or all (start + i) clear) are
    ∙ pixel_of_part under (length row) (start + i)
    (omega (arith, few, c.count_below-end.ensures.within))))

pub returns-else-has_row : goal.returns-else-has_row
returns-else-has_row c = λ under are.
    let x : FitsSigned w64 c.args.x = c.ranges.x in
    let y : FitsSigned w64 c.args.y = c.ranges.y in
    let source = c.args.self.source in
    let old = shown c.args.self.old.width c.args.self.old.height c.args.self.old.grid.now in
    let x0 : SFits w64 source.x0 = search rules in
    let x1 : SFits w64 source.x1 = search rules in
    let row = c.args.row.now in
    let off = simp to_z-of_z at c.has_row.ensures.no in
    row_stays source c.args.x c.args.y (length row) c.count_below-start.result
    c.count_below-end.result under
    (λ i. blend Normal (old (c.args.x +ℤ pos i) c.args.y) (under i)) row are
    (simp to_z-of_z at c.count_below-start.ensures.below)
    (simp to_z-of_z at c.count_below-end.ensures.rest)
    (λ from to some.
    elim c.else-has_row.branch [
      | else-has_row-via-else-has_row w ↦ off w.if-has_row.false from to
      | else-has_row-via-then-has_row+else-start-end w ↦ omega (arith, some, w.if-start-end.false)
    ])
