use Rattle.dp_plain.proofs.Commuting.{drawn_twice}
use Rattle.dp_plain.proofs.Holds.{drawn_whole}
use Rattle.dp_layered.proofs.layered.LayeredBoardBoard.laws.Goals as goal

pub returns-clause-keeps : goal.returns-clause-keeps
returns-clause-keeps g c = λ board op whole. drawn_whole board whole
    c.trees_stay_trees.ensures.after op

pub returns-clause-commutes : goal.returns-clause-commutes
returns-clause-commutes g c = drawn_twice c.apart_commands_commute.ensures
