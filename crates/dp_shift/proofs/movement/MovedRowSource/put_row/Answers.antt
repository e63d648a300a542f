use Rattle.std.proofs.Common.{◌∙◌, ap, length, w64}
use Rattle.std.specs.Prelude.{FitsSigned}
use Rattle.std.proofs.lemmas.Int.{to_z-of_z}
use Rattle.dp_shift.specs.Reading.{cleared, moved_part, row_from, shown}
use Rattle.dp_shift.proofs.RowLemmas.{as_long, length-row_from}
use Rattle.dp_shift.proofs.movement.MovedRowSource.put_row.Goals as goal

pub returns : goal.returns
returns c =
    let x : FitsSigned w64 c.args.x = c.ranges.x in
    let y : FitsSigned w64 c.args.y = c.ranges.y in
    let m = c.args.self.now in
    let old = shown m.old.width m.old.height m.old.grid.now in
    let len = length c.args.row.now in
    let read = simp to_z-of_z at c.read.ensures in
    let is_read = ap length read ∙ length-row_from old c.args.x c.args.y len in
    let clear = (simp to_z-of_z at c.clear.ensures) old
    (as_long old c.args.x c.args.y len c.read.new.row read)
    ∙ ap (row_from (cleared m.source old) c.args.x c.args.y) is_read in
    let is_clear = ap length clear ∙ length-row_from (cleared m.source old) c.args.x c.args.y len in
    (simp to_z-of_z at c.lay.ensures) (cleared m.source old)
    (as_long (cleared m.source old) c.args.x c.args.y len c.clear.new.row clear)
    ∙ ap (row_from (moved_part m.source m.right m.down old) c.args.x c.args.y) is_clear
