use Rattle.std.proofs.Common.{◌≡◌}
use Rattle.dp_text_tests.proofs.lines.feed.Given as goal

abbrev pub invariant-lines : goal.invariant-lines
invariant-lines g l = l.lines.fed ≡ l.initial.lines.fed
