use Rattle.std.proofs.Common.{◌≡◌, ◌++◌, map, take, drop}
use Rattle.dp_savepoints.specs.Kept.{marked}
use Rattle.dp_savepoints.proofs.kept.mark_all.Given as goal

-- the acts so far have their new flags, and the rest are as they were
abbrev pub invariant-loop-act : goal.invariant-loop-act
invariant-loop-act g l =
    l.kept ≡ map (marked l.mark) (take l.act-index l.fn.kept) ++ drop l.act-index l.fn.kept
