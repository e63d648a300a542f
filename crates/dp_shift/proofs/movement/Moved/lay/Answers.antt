use Rattle.std.proofs.Common.{◌∙◌, length, rules, SFits, w64}
use Rattle.std.specs.Prelude.{FitsSigned, pos, ◌+ℤ◌, ◌-ℤ◌}
use Rattle.std.proofs.lemmas.Int.{to_z-of_z}
use Rattle.dp_shift.specs.Reading.{shown}
use Rattle.dp_shift.proofs.RowLemmas.{lifted_is_laid}
use Rattle.dp_shift.proofs.movement.Moved.lay.Goals as goal

pub returns : goal.returns
returns c = λ pixel are.
    let x : FitsSigned w64 c.args.x = c.ranges.x in
    let y : FitsSigned w64 c.args.y = c.ranges.y in
    let right : SFits w64 c.args.self.right = search rules in
    let down : SFits w64 c.args.self.down = search rules in
    let back_x : SFits w64 (c.args.x -ℤ c.args.self.right) = search rules in
    let back_y : SFits w64 (c.args.y -ℤ c.args.self.down) = search rules in
    (simp to_z-of_z at c.lay_source.ensures) (λ i. pixel (c.args.x +ℤ pos i) c.args.y) are
    ∙ lifted_is_laid c.args.self.source c.args.self.right c.args.self.down
    (shown c.args.self.old.width c.args.self.old.height c.args.self.old.grid.now) pixel c.args.x
    c.args.y
    (length c.args.row.now)
