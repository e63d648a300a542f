use Rattle.dp_board.proofs.WindowLemmas.{window_is_of_last_points}
use Rattle.dp_board.proofs.laws.window_is_of_last_points.Goals as goal

pub returns : goal.returns
returns g c = window_is_of_last_points _
