use Rattle.std.proofs.Common.{refl}
use Rattle.dp_ops.proofs.Ops.{dab_drawn}
use Rattle.dp_ops.proofs.op.TileDab.draw.Goals as goal

pub returns : goal.returns
returns c = λ t.
    dab_drawn t c.args.self _ c.brush.result.shape c.brush.result.mode c.brush.result.color
    c.args.pixels.now c.draw_dab.new.pixels refl refl refl refl refl refl c.brush.ensures.shape
    c.brush.ensures.mode c.brush.ensures.color c.requires
    (rw c.placed.ensures at c.draw_dab.ensures)
