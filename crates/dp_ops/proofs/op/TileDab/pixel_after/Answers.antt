use Rattle.std.proofs.Common.{refl}
use Rattle.dp_ops.proofs.Ops.{dab_pixel}
use Rattle.dp_ops.proofs.op.TileDab.pixel_after.Goals as goal

pub returns : goal.returns
returns c =
    dab_pixel c.args.self _ c.brush.result.shape c.brush.result.mode c.brush.result.color
    c.args.x c.args.y c.args.old c.draw_dab.new.pixels c.index-pixel-0.result refl refl refl refl
    refl refl c.brush.ensures.shape c.brush.ensures.mode c.brush.ensures.color c.requires.x
    c.requires.y (rw c.placed.ensures at c.draw_dab.ensures)
