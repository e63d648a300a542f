use Rattle.dp_ops.proofs.Ops.{tile_replaced}
use Rattle.dp_ops.proofs.painter.fill_tile.Goals as goal

pub returns : goal.returns
returns c =
    tile_replaced c.args.color c.args.pixels.now c.row_fill.new.row c.requires
    c.row_fill.ensures.value
