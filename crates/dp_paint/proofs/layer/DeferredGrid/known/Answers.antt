use Rattle.std.proofs.Common.{◌≡◌, ◌*◌, length, subst}
use Rattle.dp_paint.specs.Layers.{LayerOf}
use Rattle.dp_paint.proofs.Layers.{length-layer}
use Rattle.dp_paint.proofs.layer.DeferredGrid.known.Goals as goal

pub returns-clause-covers : goal.returns-clause-covers
returns-clause-covers c =
    let inside = c.self.inside in
    subst (λ (l : LayerOf). length l.pixels ≡ l.width * l.height) c.self.view_is
    (length-layer inside.width inside.height inside.images.items inside.lists inside.grid)
