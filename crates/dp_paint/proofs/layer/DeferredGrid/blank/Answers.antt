use Rattle.std.proofs.Common.{ap}
use Rattle.dp_ops.specs.Lists.{Lists}
use Rattle.dp_paint.proofs.Layers.{blank_layer}
use Rattle.dp_paint.proofs.layer.DeferredGrid.blank.Goals as goal

pub returns : goal.returns
returns c =
    blank_layer c.args.width c.args.height c.new.result.items c.new-2.result c.in_ok-grid.grid
    (ap (λ (l : Lists). l.lists) c.new-2.ensures) c.in_ok-grid.ensures
