use Rattle.dp_board.proofs.GroupLemmas.{groups_are_points, moved_is_a_point}
use Rattle.dp_board.proofs.laws.groups_are_points.Goals as goal

pub returns-clause-groups : goal.returns-clause-groups
returns-clause-groups g c = groups_are_points _

pub returns-clause-moved : goal.returns-clause-moved
returns-clause-moved g c = moved_is_a_point _
