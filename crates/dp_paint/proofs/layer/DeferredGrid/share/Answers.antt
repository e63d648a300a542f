use Rattle.std.proofs.Common.{◌∙◌}
use Rattle.dp_paint.proofs.Layers.{same_layer, same_pixels}
use Rattle.dp_paint.proofs.Named.{by_commands}
use Rattle.dp_paint.proofs.layer.DeferredGrid.share.Goals as goal

pub returns : goal.returns
returns c =
    let inside = c.self.inside in
    let images = inside.images.items in
    let lists = c.in_ok-share-2.field-0 in
    let grid = c.in_ok-share.field-0 in
    by_commands c.args.self.now inside.width inside.height images c.in_ok-copied.field-0.items lists
    grid (c.in_ok-copied.ensures ∙ c.deref.ensures.value)
    (same_layer c.args.self.now inside.width inside.height images inside.lists lists inside.grid
    grid c.self.view_is
    (rw c.in_ok-share.ensures (same_pixels inside.width inside.height images inside.lists lists
    inside.grid c.self.invariant.0.wide c.in_ok-share-2.ensures.same)))
