use Rattle.std.proofs.Common.{◌≡◌, take}
use Rattle.dp_layers.proofs.held.share_held.Given as goal

-- the shares so far are those of the contents up to the index
abbrev pub invariant-loop-held : goal.invariant-loop-held
invariant-loop-held g l = l.shares.items ≡ take l.held-index l.contents.items
