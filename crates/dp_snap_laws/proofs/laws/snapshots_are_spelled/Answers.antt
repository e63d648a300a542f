use Rattle.std.proofs.Common.{map}
use Rattle.dp_board.specs.Commands.{drawn_commands}
use Rattle.dp_board.specs.Flags.{drawn_flags}
use Rattle.dp_plain.specs.Board.{empty_board}
use Rattle.dp_replay.specs.Replay.{replay, user_act_of, undo_depth}
use Rattle.dp_snap_laws.proofs.Keeping.{commands_spelled}
use Rattle.dp_snap_laws.proofs.Spelling.{all_spelled, empty_spelled, snapshot_spelled}
use Rattle.dp_snap_laws.proofs.laws.snapshots_are_spelled.Goals as goal

pub returns : goal.returns
returns c = λ entries each.
    let acts = map user_act_of entries in
    snapshot_spelled (replay entries) (c.replays_are_boards.ensures entries)
    (c.replays_have_pixels.ensures entries each)
    (all_spelled (drawn_commands undo_depth acts) empty_board
    (commands_spelled entries (drawn_flags undo_depth acts) each) empty_spelled)
