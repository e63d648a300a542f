use Rattle.std.proofs.Common.{◌/◌, ◌%◌, ◌≤◌, ◌∙◌, ap, length, arith}
use Rattle.dp_ops.specs.declared.op.TileOp.{TileOp}
use Rattle.dp_ops.specs.Ops.{on_tile, op_at}
use Rattle.dp_ops.proofs.Ops.{ops_next}
use Rattle.dp_paint.proofs.Layers.{pixel_of_layer}
use Rattle.dp_paint.proofs.Named.{by_commands}
use Rattle.dp_paint.proofs.layer.DeferredGrid.pixel.Goals as goal

pub loop-op-preserved : goal.loop-op-preserved
loop-op-preserved c =
    let inside = c.self.inside in
    let x = c.args.x % 64 in
    let y = c.args.y % 64 in
    let t = on_tile inside.width inside.height c.deref.result.now (c.args.x / 64) (c.args.y / 64)
    in
    c.pixel_after-pixel.ensures
    ∙ ap (λ (o : TileOp). op_at t o x y c.loop-op.pixel) c.unpacked.ensures
    ∙ ap (op_at t c.op-item.result x y) c.loop-op.invariant
    ∙ ops_next t c.ops-op-items.result.now c.loop-op.op-index c.op-item.result
    c.loop-op-test.true c.op-item.is x y c.get-pixel.result

pub returns : goal.returns
returns c =
    let inside = c.self.inside in
    let ops = c.ops-op-items.result.now in
    let end : length ops ≤ c.loop-op.op-index = omega arith in
    pixel_of_layer c.args.self.now inside.width inside.height c.deref.result.now inside.lists
    inside.grid ops c.loop-op.op-index c.args.x c.args.y c.get-pixel.result c.loop-op.pixel
    (by_commands c.args.self.now inside.width inside.height inside.images.items
    c.deref.result.now inside.lists inside.grid c.deref.ensures.value c.self.view_is)
    c.ops-op-items.ensures end c.get-pixel.ensures
    c.loop-op.invariant c.requires.across c.requires.down
