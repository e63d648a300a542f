use Rattle.dp_pixels.proofs.Commuting.{commute}
use Rattle.dp_pixels.proofs.laws.apart_commands_commute.Goals as goal

pub returns : goal.returns
returns c = commute c.pixel_of_canvas.ensures c.equal_canvases.ensures
