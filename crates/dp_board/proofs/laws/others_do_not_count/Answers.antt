use Rattle.dp_board.proofs.OtherLemmas.{others_do_not_count}
use Rattle.dp_board.proofs.laws.others_do_not_count.Goals as goal

pub returns : goal.returns
returns g c = others_do_not_count _
