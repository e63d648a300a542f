use Rattle.std.proofs.Common.{◌∙◌, ap, arith, drop, length}
use Rattle.std.proofs.lemmas.Result.{on_ok_weaker}
use Rattle.dp_pixels.specs.Commands.{pixels_after}
use Rattle.dp_plain.proofs.Pixels.{painted_fits}
use Rattle.dp_layered.proofs.plain.PlainPixelsLayerPixels.paint.Goals as goal

pub returns-clause-fits : goal.returns-clause-fits
returns-clause-fits g c =
    let w = c.args.width in
    let h = c.args.height in
    let op = c.args.command.now in
    let items = c.self.inside.pixels.items in
    let new = c.draw_pixels.new.pixels in
    on_ok_weaker c.draw_pixels.result
    (λ is. painted_fits c.pixels_stay_pixels.ensures w h op c.args.self.now new
    (drop (length new) items) c.self.inside.pixels.len (omega arith) c.known_colors.ensures
    c.requires.fits.1
    (is ∙ ap (pixels_after w h op) (c.deref_mut.ensures.value ∙ c.self.view_is)))
    c.draw_pixels.ensures.ok
