use Rattle.std.proofs.Common.{◌∙◌, ap, length, rules, SFits, w32, w64}
use Rattle.std.specs.Prelude.{FitsSigned, ◌-ℤ◌}
use Rattle.std.proofs.lemmas.Int.{to_z-of_z}
use Rattle.dp_shift.specs.Reading.{row_from, shown}
use Rattle.dp_shift.proofs.RowLemmas.{row_shifted}
use Rattle.dp_shift.proofs.resize.ShiftedRowSource.put_row.Goals as goal

pub returns : goal.returns
returns c =
    let s = c.args.self.now in
    let x : FitsSigned w64 c.args.x = c.ranges.x in
    let y : FitsSigned w64 c.args.y = c.ranges.y in
    let left : SFits w32 s.left = search rules in
    let top : SFits w32 s.top = search rules in
    let back_x : SFits w64 c.place_back.result = search rules in
    let back_y : SFits w64 c.place_back-2.result = search rules in
    let at_x = simp to_z-of_z at c.place_back.ensures.value in
    let at_y = simp to_z-of_z at c.place_back-2.ensures.value in
    let old = shown s.old.width s.old.height s.old.grid.now in
    (simp to_z-of_z at c.read.ensures)
    ∙ ap (λ z. row_from old z c.place_back-2.result (length c.args.row.now)) at_x
    ∙ ap (λ z. row_from old (c.args.x -ℤ s.left) z (length c.args.row.now)) at_y
    ∙ row_shifted old s.left s.top c.args.x c.args.y (length c.args.row.now)
