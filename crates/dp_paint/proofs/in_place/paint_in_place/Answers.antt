use Rattle.std.proofs.lemmas.Result.{on_ok_weaker}
use Rattle.dp_paint.proofs.Painting.{grid_painted}
use Rattle.dp_paint.proofs.in_place.paint_in_place.Goals as goal

pub returns-clause-pixels : goal.returns-clause-pixels
returns-clause-pixels g c =
    on_ok_weaker c.paint_area.result
    (λ painted. grid_painted c.args.width c.args.height c.args.command.now c.requires.command
    c.pixels_stay_outside_the_foot.ensures c.cells_of-area.result c.args.grid.now
    c.paint_area.new.self c.requires.grid
    (λ x y in_x in_y is. c.cells_of-area.ensures.all x y (rw c.cols.ensures in_x)
    (rw c.rows.ensures in_y) is) painted)
    c.paint_area.ensures.painted
