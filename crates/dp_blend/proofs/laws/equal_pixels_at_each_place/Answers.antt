use Rattle.dp_blend.proofs.Canvas.{same_canvas}
use Rattle.dp_blend.proofs.laws.equal_pixels_at_each_place.Goals as goal

pub returns : goal.returns
returns c = same_canvas
