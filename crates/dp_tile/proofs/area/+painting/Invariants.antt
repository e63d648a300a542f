use Rattle.std.proofs.Common.{◌+◌, ◌*◌, length}
use Rattle.dp_tile.proofs.area.+painting.Given as goal

abbrev pub decreases-paint_cells : goal.decreases-paint_cells
decreases-paint_cells g l = (length l.below.now * 67 + length l.slots.now) * 4 + 1

abbrev pub decreases-paint_rows : goal.decreases-paint_rows
decreases-paint_rows g l = length l.rows.now * 268

abbrev pub decreases-paint_row : goal.decreases-paint_row
decreases-paint_row g l = length l.below.now * 268 + 267

abbrev pub decreases-replace_row : goal.decreases-replace_row
decreases-replace_row g l = length l.below.now * 268 + 266

abbrev pub decreases-paint_slots : goal.decreases-paint_slots
decreases-paint_slots g l = length l.below.now * 268 + 266

abbrev pub decreases-paint_columns : goal.decreases-paint_columns
decreases-paint_columns g l = length l.below.now * 268 + 265

abbrev pub decreases-paint_first : goal.decreases-paint_first
decreases-paint_first g l = (length l.below.now * 67 + length l.others.now) * 4 + 4

abbrev pub decreases-paint_owned : goal.decreases-paint_owned
decreases-paint_owned g l = (length l.below.now * 67 + length l.others.now) * 4 + 3

abbrev pub decreases-paint_held : goal.decreases-paint_held
decreases-paint_held g l = (length l.below.now * 67 + length l.others.now) * 4 + 2
