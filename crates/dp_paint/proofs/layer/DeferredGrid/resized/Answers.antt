use Rattle.std.proofs.Common.{◌∙◌, List, ap, refl, subst, sym}
use Rattle.dp_msg_draw.specs.declared.draw.Draw.{Draw}
use Rattle.dp_tile.specs.declared.area.CellArea.{CellArea}
use Rattle.dp_tile.specs.Areas.{IsPaintedOn}
use Rattle.dp_ops.specs.Lists.{Lists, waiting_tile}
use Rattle.dp_shift.specs.Grids.{IsGridOf}
use Rattle.dp_paint.proofs.Layers.{all_painted, no_lists, resized_layer}
use Rattle.dp_paint.proofs.Named.{other_layer}
use Rattle.dp_paint.proofs.layer.DeferredGrid.resized.Goals as goal

pub returns-clause-resized : goal.returns-clause-resized
returns-clause-resized g c =
    let inside = c.self.inside in
    let change = c.args.change in
    let images = inside.images.items in
    let left = c.new.result.items in
    let area : CellArea =
    record { left = 0; right = c.cols.result; top = 0; bottom = c.rows.result } in
    let lists = c.new-2.result in
    let none = ap (λ (l : Lists). l.lists) c.new-2.ensures in
    let new = c.in_ok-resized.resized in
    other_layer _ change.new_width change.new_height images left lists lists new new
    (resized_layer c.args.self.now change inside.width inside.height images inside.lists lists
    inside.grid c.in_ok-grid.grid c.paint_lists.new.grid new c.self.view_is c.in_ok-grid.ensures
    c.requires.wide c.requires.high
    (all_painted inside.width inside.height images area inside.lists c.in_ok-grid.grid
    c.paint_lists.new.grid
    (subst (IsGridOf inside.width inside.height) (sym c.in_ok-grid.ensures) c.self.invariant.0) refl
    c.cols.ensures refl c.rows.ensures
    (subst (λ (cs : List Draw). IsPaintedOn area
    (waiting_tile inside.width inside.height cs inside.lists) c.in_ok-grid.grid
    c.paint_lists.new.grid) c.deref.ensures.value c.in_default.ensures.painted))
    none c.in_ok-resized.ensures.resized)
    (no_lists change.new_width change.new_height left lists new none
    ∙ sym (no_lists change.new_width change.new_height images lists new none))
