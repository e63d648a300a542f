use Rattle.dp_pixels.proofs.Squares.{squares_by_counting}
use Rattle.dp_pixels.proofs.laws.squares_are_counted.Goals as goal

pub returns : goal.returns
returns c = squares_by_counting
