use Rattle.dp_board.proofs.CommandLemmas.{drawn_flags-map_commands}
use Rattle.dp_board.proofs.laws.commands_do_not_count.Goals as goal

pub returns : goal.returns
returns g c = drawn_flags-map_commands _ _
