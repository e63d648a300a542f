use Rattle.std.proofs.Common.{◌≡◌, take}
use Rattle.dp_ops.specs.Ops.{on_tile, tile_after}
use Rattle.dp_ops.proofs.painter.draw_ops.Given as goal

-- the operations before the index are drawn
abbrev pub invariant-loop-op : goal.invariant-loop-op
invariant-loop-op l = l.pixels ≡ tile_after
    (on_tile l.on.width l.on.height l.on.commands.now l.col l.row) (take l.op-index l.ops)
    l.initial.pixels
