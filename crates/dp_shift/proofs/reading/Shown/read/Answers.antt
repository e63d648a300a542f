use Rattle.std.proofs.Common.{◌≡◌, ℕ, ◌-◌, ◌<◌, ◌∙◌, ap, length, get_or, arith}
use Rattle.std.proofs.Common.{w64}
use Rattle.std.proofs.lemmas.List.{get_or-replicate, length-replicate}
use Rattle.std.specs.Prelude.{FitsSigned}
use Rattle.std.proofs.lemmas.Int.{to_z-of_z}
use Rattle.std.proofs.lemmas.Int.{ints}
use Rattle.dp_blend.specs.Color.{clear}
use Rattle.dp_tile.specs.Tiles.{part_of_grid}
use Rattle.dp_tile.proofs.Areas.{length-part}
use Rattle.dp_shift.proofs.Read.{row_above, row_across, row_below, row_beside}
use Rattle.dp_shift.proofs.reading.Shown.read.Goals as goal
use Rattle.dp_shift.proofs.reading.Shown.read.Goals.{then-y-lt0-via-then-y-lt0}
use Rattle.dp_shift.proofs.reading.Shown.read.Goals.{then-y-lt0-via-else-y-lt0+then-y-self}

pub returns-then-y-lt0 : goal.returns-then-y-lt0
returns-then-y-lt0 c =
    let len = length c.args.row.now in
    let count = ap length c.clear_row.ensures ∙ length-replicate len clear in
    let blank : (i : ℕ) → i < len → get_or c.clear_row.new.row i clear ≡ clear =
    λ i few. ap (λ xs. get_or xs i clear) c.clear_row.ensures
    ∙ get_or-replicate len i clear clear few in
    elim c.then-y-lt0.branch [
      | then-y-lt0-via-then-y-lt0 w ↦ row_above c.args.self.width c.args.self.height
          c.args.self.grid.now c.args.x c.args.y len c.clear_row.new.row count blank
          (omega (arith, ints, w.if-y-lt0.true))
      | then-y-lt0-via-else-y-lt0+then-y-self w ↦ row_below c.args.self.width c.args.self.height
          c.args.self.grid.now c.args.x c.args.y len c.clear_row.new.row count blank
          (omega (arith, ints, w.if-y-self.true))
    ]

pub copy_part-requires-clause-within : goal.copy_part-requires-clause-within
copy_part-requires-clause-within c =
    let x : FitsSigned w64 c.args.x = c.ranges.x in
    let start = c.count_below-start.result in
    let end = c.count_below-end.result in
    let inside = simp to_z-of_z at c.count_below-end.ensures.below in
    let left = simp to_z-of_z at c.number_after-left.ensures in
    let last = inside (end - 1)
    (omega (arith, c.count_below-end.ensures.within, c.if-start-end.true))
    (omega (arith, c.if-start-end.true)) in
    omega (
      arith,
      ints,
      last,
      left,
      c.if-start-end.true,
      c.args.self.of.cols,
      length-part start end c.clear_row.new.row (omega (arith, c.if-start-end.true))
          c.count_below-end.ensures.within,
    )

pub returns-then-start-end : goal.returns-then-start-end
returns-then-start-end c =
    let x : FitsSigned w64 c.args.x = c.ranges.x in
    let y : FitsSigned w64 c.args.y = c.ranges.y in
    let len = length c.args.row.now in
    let start = c.count_below-start.result in
    let end = c.count_below-end.result in
    let g = c.args.self.grid.now in
    let count = ap length c.clear_row.ensures ∙ length-replicate len clear in
    let before = simp to_z-of_z at c.count_below-start.ensures.below in
    let inside = simp to_z-of_z at c.count_below-end.ensures.below in
    let past = simp to_z-of_z at c.count_below-end.ensures.rest in
    let at_x = simp to_z-of_z at c.number_after-left.ensures in
    let at_y = simp to_z-of_z at c.number_after-top.ensures in
    row_across c.args.self.width c.args.self.height g c.args.x c.args.y len c.clear_row.new.row
    count
    (λ i few. ap (λ xs. get_or xs i clear) c.clear_row.ensures
    ∙ get_or-replicate len i clear clear few)
    start end (λ i few less. before i (omega (arith, few, count)) less)
    (λ i few gone. omega (arith, ints, past i (omega (arith, few, count)) gone))
    c.number_after-left.result c.number_after-top.result c.copy_part.new.part c.if-start-end.true
    (omega (arith, c.count_below-end.ensures.within, count)) at_x
    (omega (arith, ints, at_y))
    (omega (arith, ints, at_y, c.if-y-self.false))
    (λ i few less. omega (arith, ints, inside i (omega (arith, few, count)) less))
    (c.copy_part.ensures ∙ ap (part_of_grid g c.number_after-left.result c.number_after-top.result)
    (length-part start end c.clear_row.new.row (omega (arith, c.if-start-end.true))
    c.count_below-end.ensures.within))

pub returns-else-start-end : goal.returns-else-start-end
returns-else-start-end c =
    let x : FitsSigned w64 c.args.x = c.ranges.x in
    let len = length c.args.row.now in
    let count = ap length c.clear_row.ensures ∙ length-replicate len clear in
    let before = simp to_z-of_z at c.count_below-start.ensures.below in
    let past = simp to_z-of_z at c.count_below-end.ensures.rest in
    row_beside c.args.self.width c.args.self.height c.args.self.grid.now c.args.x c.args.y len
    c.clear_row.new.row count
    (λ i few. ap (λ xs. get_or xs i clear) c.clear_row.ensures
    ∙ get_or-replicate len i clear clear few)
    c.count_below-start.result c.count_below-end.result
    (λ i few less. before i (omega (arith, few, count)) less)
    (λ i few gone. omega (arith, ints, past i (omega (arith, few, count)) gone))
    (omega (arith, c.if-start-end.false))
