use Rattle.dp_msg_draw.proofs.Forms.{only}
use Rattle.dp_msg_draw.proofs.reader.read_draw.Goals as goal

pub returns-clause-only : goal.returns-clause-only
returns-clause-only c = only c.args.kind c.args.payload.now c.message_at.result
    c.message_at.ensures.answers
