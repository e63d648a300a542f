use Rattle.std.proofs.Common.{◌≡◌, take}
use Rattle.dp_paint.proofs.layer.copied.Given as goal

-- the commands before the index are copied
abbrev pub invariant-loop-command : goal.invariant-loop-command
invariant-loop-command l = l.copy.items ≡ take l.command-index l.commands
