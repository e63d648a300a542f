use Rattle.std.proofs.Common.{◌≡◌, ◌/◌, ◌%◌, take}
use Rattle.dp_ops.specs.Ops.{on_tile, ops_at}
use Rattle.dp_paint.proofs.layer.DeferredGrid.pixel.Given as goal

-- the operations before the index are done
abbrev pub invariant-loop-op : goal.invariant-loop-op
invariant-loop-op l = l.pixel
    ≡ ops_at (on_tile l.on.width l.on.height l.on.commands.now (l.x / 64) (l.y / 64))
    (take l.op-index l.op-items) (l.x % 64) (l.y % 64) l.initial.pixel
