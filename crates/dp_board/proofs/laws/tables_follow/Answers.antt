use Rattle.dp_board.proofs.KeepLemmas.{tables_begin, tables_go_on, tables_move, tables_join}
use Rattle.dp_board.proofs.laws.tables_follow.Goals as goal

pub returns-clause-first : goal.returns-clause-first
returns-clause-first g c = tables_begin _

pub returns-clause-next : goal.returns-clause-next
returns-clause-next g c = tables_go_on _

pub returns-clause-moved : goal.returns-clause-moved
returns-clause-moved g c = tables_move _

pub returns-clause-joined : goal.returns-clause-joined
returns-clause-joined g c = tables_join _
