use Rattle.std.proofs.Common.{◌≡◌, ◌≤◌, ◌-◌, ◌+◌, arith}
use Rattle.dp_tile.proofs.CellByCell.{area_begins, area_next, area_shown_next}
use Rattle.dp_tile.proofs.grid.Grid.paint_each.Goals as goal

pub loop-row-init : goal.loop-row-init
loop-row-init g c =
    record {
      painted = area_begins (g.P.TilePainter.painted c.args.painter.now) c.args.area
          c.args.self.now;
      rise = omega arith;
      few = omega arith;
      shown = omega arith;
    }

pub loop-row-preserved : goal.loop-row-preserved
loop-row-preserved g c =
    let painted = g.P.TilePainter.painted c.args.painter.now in
    let inv = c.loop-row.invariant in
    let area = c.args.area in
    let row = c.loop-row.row in
    let order : area.top ≤ row = c.loop-row.auto.row in
    let next = c.in_ok-paint_row.ensures in
    let one_more : row + 1 - area.top ≡ row - area.top + 1 = omega (arith, order) in
    record {
      painted = area_next painted area c.args.self.now row c.loop-row.self c.paint_row.new.self
          order c.requires.across c.requires.cols inv.painted next.painted;
      rise = omega (arith, inv.rise, next.tiles_rise);
      few = rw one_more (omega (arith, inv.few, next.few_tiles));
      shown = omega (
        arith,
        inv.shown,
        next.few_shown,
        area_shown_next painted area c.args.self.now row c.loop-row.self c.paint_row.new.self order
            c.requires.across c.requires.cols inv.painted next.painted,
      );
    }
