use Rattle.std.proofs.Common.{refl}
use Rattle.dp_ops.proofs.Drawn.{number_pixel}
use Rattle.dp_ops.proofs.sheet.Sheet.pixel_after.Goals as goal

pub returns : goal.returns
returns c =
    let on = c.args.self.now in
    number_pixel on.width on.height on.commands.now c.args.number c.in-Some.command.now _ c.args.x
    c.args.y c.args.old c.draw_region.new.pixels c.index-pixel-0.result c.in-Some.ensures.some refl
    refl refl refl refl refl c.draw_region.ensures
