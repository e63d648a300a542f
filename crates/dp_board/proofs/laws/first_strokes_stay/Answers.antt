use Rattle.dp_board.proofs.WindowLemmas.{first_strokes_stay}
use Rattle.dp_board.proofs.laws.first_strokes_stay.Goals as goal

pub returns : goal.returns
returns g c = first_strokes_stay _
