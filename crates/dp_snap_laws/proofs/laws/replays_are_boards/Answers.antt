use Rattle.std.proofs.Common.{map}
use Rattle.dp_board.specs.Commands.{drawn_commands}
use Rattle.dp_plain.specs.Board.{empty_board}
use Rattle.dp_replay.specs.Replay.{user_act_of, undo_depth}
use Rattle.dp_snap_laws.proofs.Keeping.{boards_all, empty_whole}
use Rattle.dp_snap_laws.proofs.laws.replays_are_boards.Goals as goal

pub returns : goal.returns
returns c = λ entries.
    boards_all c.laws.ensures.keeps (drawn_commands undo_depth (map user_act_of entries))
    empty_board (empty_whole c.trees_stay_trees.ensures.empty)
