use Rattle.std.proofs.Common.{◌<◌, ◌≤◌, arith}
use Rattle.dp_tile.proofs.CellByCell.{row_begins, row_next, shown_next}
use Rattle.dp_tile.proofs.grid.Grid.paint_row.Goals as goal

pub loop-col-init : goal.loop-col-init
loop-col-init g c =
    record {
      painted = row_begins (g.P.TilePainter.painted c.args.painter.now) c.args.row c.args.left
          c.args.self.now;
      rise = omega arith;
      few = omega arith;
      shown = omega arith;
    }

pub loop-col-preserved : goal.loop-col-preserved
loop-col-preserved g c =
    let painted = g.P.TilePainter.painted c.args.painter.now in
    let inv = c.loop-col.invariant in
    let col = c.loop-col.col in
    let order : c.args.left ≤ col = c.loop-col.auto.col in
    let in_cols : col < c.loop-col.self.cols = omega (
      arith,
      inv.painted.cols,
      c.requires.cols,
      c.loop-col-test.true,
    ) in
    let in_rows : c.args.row < c.loop-col.self.rows = omega (
      arith,
      inv.painted.rows,
      c.requires.row,
    ) in
    record {
      painted = row_next painted c.args.row c.args.left c.args.self.now col c.loop-col.self
          c.paint.new.self order c.known.ensures in_cols in_rows inv.painted
          c.in_ok-paint.ensures.painted;
      rise = omega (arith, inv.rise, c.in_ok-paint.ensures.tiles_rise);
      few = omega (arith, inv.few, c.in_ok-paint.ensures.one_tile, order);
      shown = omega (
        arith,
        inv.shown,
        c.in_ok-paint.ensures.few_shown,
        shown_next painted c.args.row c.args.left c.args.self.now col c.loop-col.self
            c.paint.new.self order c.known.ensures in_cols in_rows inv.painted
            c.in_ok-paint.ensures.painted,
      );
    }
