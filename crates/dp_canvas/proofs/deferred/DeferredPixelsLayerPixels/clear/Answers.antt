use Rattle.dp_canvas.proofs.DeferredLayers.{clear_layer}
use Rattle.dp_canvas.proofs.deferred.DeferredPixelsLayerPixels.clear.Goals as goal

pub returns-clause-fits : goal.returns-clause-fits
returns-clause-fits g c =
    (clear_layer c.args.width c.args.height c.in_ok-blank.field-0 c.in_ok-blank.ensures).0
