use Rattle.dp_messages.proofs.Comparing.{same_message_decides}
use Rattle.dp_messages.proofs.laws.one_equality.Goals as goal

pub returns : goal.returns
returns c =
    same_message_decides (record {
      control = c.control_equality.ensures;
      meta = c.meta_equality.ensures;
      draw = c.same_draw_is_equality.ensures;
    })
