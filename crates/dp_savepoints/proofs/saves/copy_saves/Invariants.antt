use Rattle.std.proofs.Common.{◌≡◌, take}
use Rattle.dp_savepoints.proofs.saves.copy_saves.Given as goal

-- those so far
abbrev pub invariant-loop-save : goal.invariant-loop-save
invariant-loop-save g l = l.copies.items ≡ take l.save-index l.saves
