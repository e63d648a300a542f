use Rattle.std.proofs.Common.{◌∙◌, List, ap, refl, subst}
use Rattle.dp_msg_draw.specs.declared.draw.Draw.{Draw}
use Rattle.dp_tile.specs.declared.area.CellArea.{CellArea}
use Rattle.dp_tile.specs.Areas.{IsPaintedOn}
use Rattle.dp_ops.specs.Lists.{Lists, waiting_tile}
use Rattle.dp_paint.proofs.Layers.{all_painted, no_lists}
use Rattle.dp_paint.proofs.Named.{other_layer}
use Rattle.dp_paint.proofs.layer.DeferredGrid.make_room.Goals as goal

pub returns-clause-same : goal.returns-clause-same
returns-clause-same g c =
    let inside = c.self.inside in
    let images = inside.images.items in
    let left = c.new-2.result.items in
    let area : CellArea =
    record { left = 0; right = c.cols-cols.result; top = 0; bottom = c.rows-rows.result } in
    other_layer c.args.self.now inside.width inside.height images left inside.lists c.new.result
    inside.grid c.paint_lists.new.grid c.self.view_is
    (no_lists inside.width inside.height left c.new.result c.paint_lists.new.grid
    (ap (λ (l : Lists). l.lists) c.new.ensures)
    ∙ all_painted inside.width inside.height images area inside.lists inside.grid
    c.paint_lists.new.grid c.self.invariant.0 refl c.cols-cols.ensures refl c.rows-rows.ensures
    (subst (λ (cs : List Draw). IsPaintedOn area
    (waiting_tile inside.width inside.height cs inside.lists) inside.grid c.paint_lists.new.grid)
    c.deref.ensures.value c.in_ok-paint_lists.ensures.painted))
