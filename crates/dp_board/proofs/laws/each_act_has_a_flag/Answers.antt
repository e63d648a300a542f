use Rattle.dp_board.proofs.FlagLemmas.{length-drawn_flags}
use Rattle.dp_board.proofs.laws.each_act_has_a_flag.Goals as goal

pub returns : goal.returns
returns g c = length-drawn_flags _
