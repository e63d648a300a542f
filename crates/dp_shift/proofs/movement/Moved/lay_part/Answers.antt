use Rattle.std.proofs.Common.{◌∙◌, ap, get_or, arith, w64}
use Rattle.std.specs.Prelude.{FitsSigned, pos, ◌+ℤ◌}
use Rattle.std.proofs.lemmas.Int.{to_z-of_z}
use Rattle.dp_blend.specs.Color.{clear}
use Rattle.dp_blend.specs.Blending.{blend}
use Rattle.dp_blend.specs.declared.modes.Mode.TheVariants.{Normal}
use Rattle.dp_blend.proofs.Parts.{pixel_of_part}
use Rattle.dp_shift.specs.Reading.{shown}
use Rattle.dp_shift.proofs.movement.Moved.lay_part.Goals as goal

pub returns-clause-places : goal.returns-clause-places
returns-clause-places c = λ i few.
    let x : FitsSigned w64 c.args.x = c.ranges.x in
    let y : FitsSigned w64 c.args.y = c.ranges.y in
    let old = shown c.args.self.old.width c.args.self.old.height c.args.self.old.grid.now in
    c.lay_row.ensures.places i few
    ∙ ap (λ p. blend Normal p (get_or c.args.row.now i clear))
    (ap (λ xs. get_or xs i clear) (simp to_z-of_z at c.read.ensures)
    ∙ pixel_of_part (λ k. old (c.args.x +ℤ pos k) c.args.y) _ i (omega (arith, few)))
