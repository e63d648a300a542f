use Rattle.std.proofs.Common.{refl}
use Rattle.dp_ops.proofs.Drawn.{tile_painted}
use Rattle.dp_ops.proofs.painter.CommandPainter.draw.Goals as goal

pub returns : goal.returns
returns c =
    tile_painted c.args.self.now.width c.args.self.now.height c.args.self.now.command.now c.args.col
    c.args.row _ c.args.pixels.now _ refl refl refl refl c.requires.count c.draw_region.ensures
