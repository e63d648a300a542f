use Rattle.dp_blend.proofs.Canvas.{length-canvas_of}
use Rattle.dp_blend.proofs.laws.length_of_canvas.Goals as goal

pub returns : goal.returns
returns c = length-canvas_of
