use Rattle.std.proofs.Common.{◌≡◌, [], Some}
use Rattle.dp_pixels.specs.Tiles.{ShowsTile}
use Rattle.dp_tile.specs.Tiles.{cell_at, tile_of}
use Rattle.dp_ops.specs.Ops.{on_tile}
use Rattle.dp_ops.proofs.Ops.{shows_none}
use Rattle.dp_ops.proofs.Ops.{known_none}
use Rattle.dp_paint.proofs.Layers.{shows_layer, some_then}
use Rattle.dp_paint.proofs.layer.DeferredGrid.tile_color.Goals as goal

pub returns-then-is_empty : goal.returns-then-is_empty
returns-then-is_empty c =
    let inside = c.self.inside in
    let found = c.ops.result.now in
    let none : found ≡ [] = known_none found c.is_empty.result c.is_empty.ensures c.if-is_empty.true
    in
    some_then c.tile_color.result (λ color. cell_at inside.grid c.args.col c.args.row
    ≡ tile_of color) (λ color. ShowsTile c.args.self.now.width c.args.self.now.height
    c.args.self.now.pixels c.args.col c.args.row (Some color) []) c.tile_color.ensures
    (λ color is.
    shows_layer c.args.self.now inside.width inside.height inside.images.items inside.lists
    inside.grid c.args.col c.args.row found (Some color) [] c.self.view_is c.ops.ensures
    (shows_none (on_tile inside.width inside.height inside.images.items c.args.col c.args.row) found
    color (cell_at inside.grid c.args.col c.args.row) none is))
