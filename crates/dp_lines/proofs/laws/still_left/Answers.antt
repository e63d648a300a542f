use Rattle.dp_lines.proofs.Left.{left_after_feed, left_at_end}
use Rattle.dp_lines.proofs.laws.still_left.Goals as goal

pub returns-clause-fed : goal.returns-clause-fed
returns-clause-fed c = left_after_feed

pub returns-clause-at_end : goal.returns-clause-at_end
returns-clause-at_end c = left_at_end
