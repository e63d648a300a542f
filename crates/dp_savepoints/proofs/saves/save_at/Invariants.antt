use Rattle.std.proofs.Common.{◌≡◌, drop}
use Rattle.dp_board.specs.Strokes.{is_among}
use Rattle.dp_savepoints.specs.Saves.{points_of}
use Rattle.dp_savepoints.proofs.saves.save_at.Given as goal

-- it has a savepoint if one of those that are left is of it
abbrev pub invariant-loop-save : goal.invariant-loop-save
invariant-loop-save g l =
    is_among (points_of (drop l.save-index l.saves)) l.point ≡ is_among (points_of l.saves) l.point
