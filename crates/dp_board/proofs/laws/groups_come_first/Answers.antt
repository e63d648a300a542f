use Rattle.dp_board.proofs.MoveLemmas.{length-joins, joins_come_later, moved_is_in_reach}
use Rattle.dp_board.proofs.laws.groups_come_first.Goals as goal

pub returns-clause-each : goal.returns-clause-each
returns-clause-each g c = length-joins

pub returns-clause-joined : goal.returns-clause-joined
returns-clause-joined g c = joins_come_later _

pub returns-clause-moved : goal.returns-clause-moved
returns-clause-moved g c = moved_is_in_reach _
