use Rattle.dp_msg_draw.proofs.Comparing.{draws_compare}
use Rattle.dp_msg_draw.proofs.laws.same_draw_is_equality.Goals as goal

pub returns : goal.returns
returns c = draws_compare
