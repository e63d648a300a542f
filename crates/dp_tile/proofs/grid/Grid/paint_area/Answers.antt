use Rattle.std.proofs.Common.{◌≤◌, sym, subst}
use Rattle.std.proofs.lemmas.Result.{on_ok_weaker}
use Rattle.dp_tile.specs.Tiles.{IsCellRows, TileGrid, grid_of_rows}
use Rattle.dp_tile.specs.Areas.{IsPaintedOn, area_painted}
use Rattle.dp_tile.proofs.Areas.{painted_on, is_rows-area, at_both}
use Rattle.dp_tile.proofs.grid.Grid.paint_area.Given as given
use Rattle.dp_tile.proofs.grid.Grid.paint_area.Goals as goal

in_cols : (g : given.Over) (c : goal.After-paint_area g) → c.args.area.right ≤ c.self.inside.cols
in_cols g c =
    subst (λ (grid : TileGrid). c.args.area.right ≤ grid.cols) (sym c.self.view_is) c.requires.cols

in_rows : (g : given.Over) (c : goal.After-paint_area g) → c.args.area.bottom ≤ c.self.inside.rows
in_rows g c =
    subst (λ (grid : TileGrid). c.args.area.bottom ≤ grid.rows) (sym c.self.view_is)
    c.requires.rows

still_rows : (g : given.Over) (c : goal.After-paint_area g)
    → IsCellRows c.self.inside.cols c.self.inside.rows
    (area_painted (g.P.TilePainter.painted c.args.painter.now) c.args.area c.self.inside.cells)
still_rows g c =
    is_rows-area (g.P.TilePainter.painted c.args.painter.now)
    (g.P.TilePainter.keeps_count c.args.painter.now) c.self.inside.cols c.self.inside.rows
    c.args.area c.self.inside.cells c.self.invariant c.requires.across c.requires.down
    (in_cols g c) (in_rows g c)

pub invariant_of-self : goal.invariant_of-self
invariant_of-self g c =
    at_both (IsCellRows c.self.inside.cols c.self.inside.rows) c.paint_area.result
    c.paint_area.new.self
    (area_painted (g.P.TilePainter.painted c.args.painter.now) c.args.area c.self.inside.cells)
    c.self.inside.cells c.paint_area.ensures.painted c.paint_area.ensures.err (still_rows g c)
    c.self.invariant

pub returns-clause-painted : goal.returns-clause-painted
returns-clause-painted g c =
    let cols = c.self.inside.cols in
    let rows = c.self.inside.rows in
    let painted = g.P.TilePainter.painted c.args.painter.now in
    let new = area_painted painted c.args.area c.self.inside.cells in
    on_ok_weaker c.paint_area.result
    (λ is. subst
    (λ (old : TileGrid). IsPaintedOn c.args.area painted old
    (grid_of_rows cols rows c.paint_area.new.self)) c.self.view_is
    (subst
    (λ all. IsPaintedOn c.args.area painted (grid_of_rows cols rows c.self.inside.cells)
    (grid_of_rows cols rows all)) (sym is)
    (painted_on painted cols rows c.args.area c.self.inside.cells c.self.invariant
    c.requires.across c.requires.down (in_cols g c) (in_rows g c) (still_rows g c))))
    c.paint_area.ensures.painted
