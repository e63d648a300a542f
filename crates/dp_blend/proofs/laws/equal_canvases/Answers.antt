use Rattle.dp_blend.proofs.Canvas.{canvas_of-same}
use Rattle.dp_blend.proofs.laws.equal_canvases.Goals as goal

pub returns : goal.returns
returns c = canvas_of-same
