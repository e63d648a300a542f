use Rattle.dp_tile.specs.Areas.{area_painted, part, rows_painted, with_part}
use Rattle.dp_tile.proofs.Became.{on_err_stayed, on_ok_became, part_became}
use Rattle.dp_tile.proofs.area.paint_area.Goals as goal

pub returns-clause-painted : goal.returns-clause-painted
returns-clause-painted g c =
    on_ok_became c.paint_rows.result c.args.rows.now
    (with_part c.args.area.top c.args.area.bottom c.args.rows.now c.paint_rows.new.rows)
    (area_painted (g.P.TilePainter.painted c.args.painter.now) c.args.area c.args.rows.now)
    (part_became c.paint_rows.result c.args.area.top c.args.area.bottom c.args.rows.now
    c.paint_rows.new.rows
    (rows_painted (g.P.TilePainter.painted c.args.painter.now) c.args.area.left c.args.area.right
    c.args.area.top (part c.args.area.top c.args.area.bottom c.args.rows.now))
    c.paint_rows.ensures.rows)

pub returns-clause-err : goal.returns-clause-err
returns-clause-err g c =
    on_err_stayed c.paint_rows.result c.args.rows.now
    (with_part c.args.area.top c.args.area.bottom c.args.rows.now c.paint_rows.new.rows)
    (area_painted (g.P.TilePainter.painted c.args.painter.now) c.args.area c.args.rows.now)
    (part_became c.paint_rows.result c.args.area.top c.args.area.bottom c.args.rows.now
    c.paint_rows.new.rows
    (rows_painted (g.P.TilePainter.painted c.args.painter.now) c.args.area.left c.args.area.right
    c.args.area.top (part c.args.area.top c.args.area.bottom c.args.rows.now))
    c.paint_rows.ensures.rows)
