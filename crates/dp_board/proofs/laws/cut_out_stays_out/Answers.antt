use Rattle.dp_board.proofs.MoveLemmas.{cut_out_stays_out}
use Rattle.dp_board.proofs.laws.cut_out_stays_out.Goals as goal

pub returns : goal.returns
returns g c = cut_out_stays_out _
