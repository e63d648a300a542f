use Rattle.std.proofs.Common.{[], ◌∷◌, ap, ◌∙◌}
use Rattle.dp_ops.specs.declared.op.TileOp.{TileOp}
use Rattle.dp_ops.specs.Ops.{on_tile, tile_after}
use Rattle.dp_ops.proofs.Ops.{none_after, tile_next}
use Rattle.dp_ops.proofs.painter.draw_ops.Goals as goal

pub loop-op-init : goal.loop-op-init
loop-op-init c =
    let on = c.args.on.now in
    none_after (on_tile on.width on.height on.commands.now c.args.col c.args.row) c.args.pixels.now
    c.requires.count

pub loop-op-preserved : goal.loop-op-preserved
loop-op-preserved c =
    let on = c.args.on.now in
    let t = on_tile on.width on.height on.commands.now c.args.col c.args.row in
    tile_next t c.args.ops.now c.loop-op.op-index c.op-item.result c.loop-op-test.true c.op-item.is
    c.args.pixels.now c.loop-op.pixels c.draw.new.pixels c.loop-op.invariant
    (c.draw.ensures
    ∙ ap (λ (o : TileOp). tile_after t (o ∷ []) c.loop-op.pixels) c.unpacked.ensures)
