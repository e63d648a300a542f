use Rattle.dp_blend.proofs.Canvas.{pixel_at-canvas_of}
use Rattle.dp_blend.proofs.laws.pixel_of_canvas.Goals as goal

pub returns : goal.returns
returns c = pixel_at-canvas_of
