use Rattle.std.proofs.Common.{map}
use Rattle.dp_board.specs.Flags.{drawn_flags}
use Rattle.dp_plain.specs.Board.{empty_board}
use Rattle.dp_board.specs.Commands.{drawn_commands}
use Rattle.dp_replay.specs.Replay.{user_act_of, undo_depth}
use Rattle.dp_snap_laws.proofs.Keeping.{commands_spelled, drawn_all, empty_has}
use Rattle.dp_snap_laws.proofs.laws.replays_have_pixels.Goals as goal

pub returns : goal.returns
returns c = λ entries each.
    drawn_all c.spelled_commands_keep_pixels.ensures
    (drawn_commands undo_depth (map user_act_of entries)) empty_board
    (commands_spelled entries (drawn_flags undo_depth (map user_act_of entries)) each) empty_has
