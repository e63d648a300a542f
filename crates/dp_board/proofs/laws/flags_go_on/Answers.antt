use Rattle.dp_board.proofs.MoveLemmas.{flags_go_on, flags_move, flags_stay_before}
use Rattle.dp_board.proofs.laws.flags_go_on.Goals as goal

pub returns-clause-unmoved : goal.returns-clause-unmoved
returns-clause-unmoved g c = flags_go_on _

pub returns-clause-moved : goal.returns-clause-moved
returns-clause-moved g c = flags_move _

pub returns-clause-before : goal.returns-clause-before
returns-clause-before g c = flags_stay_before _
