use Rattle.std.proofs.Common.{◌≡◌, arith}
use Rattle.dp_msg_meta.proofs.Forms.{no_reset_mark, no_laser, no_move_pointer}
use Rattle.dp_msg_meta.proofs.Forms.{no_undo_depth}
use Rattle.dp_msg_meta.proofs.reader.read_plain_meta.Goals as goal

pub returns-in_default-all : goal.returns-in_default-all
returns-in_default-all c = no_reset_mark c.in-37.is c.in_default-all.ensures

pub returns-in_default-all-2 : goal.returns-in_default-all-2
returns-in_default-all-2 c = no_laser c.in-64.is c.in_default-all-2.ensures

pub returns-in_default-all-3 : goal.returns-in_default-all-3
returns-in_default-all-3 c = no_move_pointer c.in-65.is c.in_default-all-3.ensures

pub returns-in_default-all-6 : goal.returns-in_default-all-6
returns-in_default-all-6 c =
    let kind : c.args.kind ≡ 70 = grind arith in
    no_undo_depth kind c.in_default-all-6.ensures
