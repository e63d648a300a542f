use Rattle.std.proofs.Common.{refl}
use Rattle.dp_msg_draw.proofs.Forms.{refused, fill_rect}
use Rattle.dp_msg_draw.proofs.reader.read_fill.Goals as goal

pub returns-in_default : goal.returns-in_default
returns-in_default c = refused refl fill_rect c.in_default.ensures
