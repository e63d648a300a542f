use Rattle.std.proofs.Common.{◌≡◌, ◌++◌, take}
use Rattle.std.specs.List.{flat_map}
use Rattle.dp_joiner.specs.Joining.{chat_line}
use Rattle.dp_joiner.proofs.chats.put_lines.Given as goal

-- the lines before the place are added
abbrev pub invariant-loop-line : goal.invariant-loop-line
invariant-loop-line l =
    l.text.items ≡ l.initial.text.items ++ flat_map chat_line (take l.line-index l.lines)
