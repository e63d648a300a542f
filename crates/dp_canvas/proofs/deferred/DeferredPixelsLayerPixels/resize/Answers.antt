use Rattle.std.proofs.Common.{ap, ◌∙◌}
use Rattle.dp_pixels.specs.declared.resize.Resize.{Resize}
use Rattle.dp_pixels.specs.Resizes.{pixels_resized}
use Rattle.dp_paint.specs.Layers.{LayerOf}
use Rattle.dp_canvas.proofs.DeferredLayers.{resized_layer}
use Rattle.dp_canvas.proofs.deferred.DeferredPixelsLayerPixels.resize.Goals as goal

-- what a resize makes of a layer
abbrev after : Resize → LayerOf → LayerOf
after r layer = record {
  width = r.new_width;
  height = r.new_height;
  pixels = pixels_resized r layer.pixels;
}

pub returns-clause-fits : goal.returns-clause-fits
returns-clause-fits g c =
    let r = c.args.change in
    (resized_layer r c.args.self.now c.in_ok-resized.field-0 c.requires.fits
    (c.in_ok-resized.ensures.resized ∙ ap (after r) c.self.view_is)).0
