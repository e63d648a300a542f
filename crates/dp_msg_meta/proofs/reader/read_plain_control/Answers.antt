use Rattle.dp_msg_meta.proofs.Forms.{no_welcome}
use Rattle.dp_msg_meta.proofs.reader.read_plain_control.Goals as goal

pub returns-in_default-all-4 : goal.returns-in_default-all-4
returns-in_default-all-4 c = no_welcome c.in-4.is c.in_default-all-4.ensures
