use Rattle.std.proofs.Common.{◌∙◌, List, ap}
use Rattle.dp_msg_draw.specs.declared.draw.Draw.{Draw}
use Rattle.dp_tile.specs.Tiles.{tile_pixels}
use Rattle.dp_ops.specs.Ops.{on_tile, tile_after}
use Rattle.dp_paint.proofs.Layers.{read_cell, shows_layer}
use Rattle.dp_paint.proofs.layer.DeferredGrid.read_tile.Goals as goal

pub returns : goal.returns
returns c =
    let inside = c.self.inside in
    let read = c.read_tile-color in
    shows_layer c.args.self.now inside.width inside.height inside.images.items inside.lists
    inside.grid c.args.col c.args.row c.ops-ops.result.now c.show_ops.result c.show_ops.new.pixels
    c.self.view_is c.ops-ops.ensures
    (c.show_ops.ensures.shown
    ∙ ap (λ (cs : List Draw). tile_after (on_tile inside.width inside.height cs c.args.col
    c.args.row) c.ops-ops.result.now (tile_pixels read.result read.new.pixels))
    c.deref.ensures.value
    ∙ ap (tile_after
    (on_tile inside.width inside.height inside.images.items c.args.col c.args.row)
    c.ops-ops.result.now)
    (read_cell read.result read.new.pixels _ read.ensures.color read.ensures.pixels))
