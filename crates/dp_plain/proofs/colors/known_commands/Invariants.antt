use Rattle.std.specs.List.{AllWithin}
use Rattle.dp_pixels.specs.Colors.{FitsColors}
use Rattle.dp_plain.proofs.colors.known_commands.Given as goal

-- the commands before the place fit
abbrev pub invariant-loop-command : goal.invariant-loop-command
invariant-loop-command l = AllWithin FitsColors l.commands 0 l.command-index
