use Rattle.dp_board.proofs.WindowLemmas.{depth_is_in_force}
use Rattle.dp_board.proofs.laws.depth_is_in_force.Goals as goal

pub returns : goal.returns
returns g c = depth_is_in_force _
