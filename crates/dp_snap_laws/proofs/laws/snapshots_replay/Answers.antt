use Rattle.std.proofs.Common.{◌∙◌, ap}
use Rattle.std.specs.List.{fold}
use Rattle.dp_plain.specs.Board.{empty_board}
use Rattle.dp_plain.specs.Commands.{draw}
use Rattle.dp_replay.specs.Replay.{replay}
use Rattle.dp_snap_laws.proofs.Snapshots.{snapshot_drawn, all_drawn}
use Rattle.dp_snap_laws.proofs.laws.snapshots_replay.Goals as goal

pub returns-clause-drawn : goal.returns-clause-drawn
returns-clause-drawn c = λ board whole has.
    snapshot_drawn board whole has (λ mode. (c.listed_modes.ensures mode).1)

pub returns-clause-replayed : goal.returns-clause-replayed
returns-clause-replayed c = λ board depth acts whole has none are.
    ap (fold draw empty_board)
    (all_drawn c.prefixes_without_points.ensures depth acts none ∙ are)
    ∙ snapshot_drawn board whole has (λ mode. (c.listed_modes.ensures mode).1)

pub returns-clause-again : goal.returns-clause-again
returns-clause-again c = λ entries each.
    snapshot_drawn (replay entries) (c.replays_are_boards.ensures entries)
    (c.replays_have_pixels.ensures entries each) (λ mode. (c.listed_modes.ensures mode).1)
