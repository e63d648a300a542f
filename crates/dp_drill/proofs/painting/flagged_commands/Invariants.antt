use Rattle.std.proofs.Common.{◌≡◌, ◌++◌, drop}
use Rattle.dp_board.specs.Commands.{commands}
use Rattle.dp_drill.proofs.painting.flagged_commands.Given as goal

-- the commands that were added, and those that are left, are all
abbrev pub invariant-loop-k : goal.invariant-loop-k
invariant-loop-k l =
    l.drawn.items ++ commands (drop l.k l.acts) (drop l.k l.flags) ≡ commands l.acts l.flags
