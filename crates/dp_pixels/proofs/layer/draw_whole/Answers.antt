use Rattle.std.proofs.Common.{refl, subst}
use Rattle.dp_pixels.specs.declared.region.Region.{Region}
use Rattle.dp_pixels.specs.Commands.{pixel_drawn}
use Rattle.dp_pixels.specs.Regions.{IsPainted}
use Rattle.dp_pixels.proofs.Whole.{whole_window, whole_painted}
use Rattle.dp_pixels.proofs.layer.draw_whole.Goals as goal

pub returns : goal.returns
returns c =
    let width = c.args.width in
    let height = c.args.height in
    let painted = subst (λ (w : Region). IsPainted w width
    (pixel_drawn w.canvas_width w.canvas_height c.args.command.now) c.args.pixels.now
    c.draw_region.new.pixels) c.whole.ensures c.draw_region.ensures in
    whole_painted c.canvas_law.ensures width height (whole_window width height)
    (pixel_drawn width height c.args.command.now) c.args.pixels.now c.draw_region.new.pixels refl
    c.requires painted
