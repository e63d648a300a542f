use Rattle.std.proofs.Common.{sym, subst}
use Rattle.dp_msg_draw.specs.declared.draw.Draw.{Draw}
use Rattle.dp_tile.specs.Painters.{KnownChange}
use Rattle.dp_ops.specs.Drawn.{tile_drawn}
use Rattle.dp_ops.proofs.painter.CommandPainter.put_change.Goals as goal

pub returns : goal.returns
returns c = λ color col after below.
    subst (λ (op : Draw). KnownChange c.change.result color
    (tile_drawn c.args.self.now.width c.args.self.now.height op col c.args.row))
    (sym c.in-PutTile.is) (c.change.ensures color col after below)
