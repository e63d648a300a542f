use Rattle.dp_board.proofs.MoveLemmas.{final_flags_stay}
use Rattle.dp_board.proofs.laws.final_flags_stay.Goals as goal

pub returns : goal.returns
returns g c = final_flags_stay _
