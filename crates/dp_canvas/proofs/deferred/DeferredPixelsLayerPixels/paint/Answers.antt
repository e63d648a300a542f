use Rattle.std.proofs.Common.{◌∙◌, ap}
use Rattle.std.proofs.lemmas.Result.{on_ok_weaker}
use Rattle.dp_msg_draw.specs.declared.draw.Draw.{Draw}
use Rattle.dp_pixels.specs.Commands.{pixels_after}
use Rattle.dp_paint.specs.Layers.{LayerOf}
use Rattle.dp_canvas.proofs.DeferredLayers.{painted_layer}
use Rattle.dp_canvas.proofs.deferred.DeferredPixelsLayerPixels.paint.Goals as goal

-- what a command makes of a layer
abbrev after : Draw → LayerOf → LayerOf
after op layer =
    record layer { pixels = pixels_after layer.width layer.height op layer.pixels }

pub returns-clause-fits : goal.returns-clause-fits
returns-clause-fits g c =
    on_ok_weaker c.draw.result
    (λ is. (painted_layer c.pixels_stay_pixels.ensures c.args._width c.args._height
    c.args.command.now c.known_colors.ensures c.args.self.now c.draw.new.self c.requires.fits
    (is ∙ ap (after c.args.command.now) c.self.view_is)).0)
    c.draw.ensures.ok

pub returns-clause-pixels : goal.returns-clause-pixels
returns-clause-pixels g c =
    on_ok_weaker c.draw.result
    (λ is. (painted_layer c.pixels_stay_pixels.ensures c.args._width c.args._height
    c.args.command.now c.known_colors.ensures c.args.self.now c.draw.new.self c.requires.fits
    (is ∙ ap (after c.args.command.now) c.self.view_is)).1)
    c.draw.ensures.ok
