use Rattle.std.proofs.Common.{◌≡◌, take}
use Rattle.dp_shared.proofs.shared.share_all.Given as goal

-- those up to the index
abbrev pub invariant-loop-item : goal.invariant-loop-item
invariant-loop-item g l = l.copies.items ≡ take l.item-index l.items
