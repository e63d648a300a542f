use Rattle.std.proofs.Common.{◌≡◌, arith}
use Rattle.dp_msg_draw.proofs.Forms.{refused, canvas_resize, layer_attr, layer_move}
use Rattle.dp_msg_draw.proofs.Forms.{move_rect}
use Rattle.dp_msg_draw.proofs.reader.read_plain.Goals as goal

pub returns-in_default-all : goal.returns-in_default-all
returns-in_default-all c = refused c.in-129.is canvas_resize c.in_default-all.ensures

pub returns-in_default-all-2 : goal.returns-in_default-all-2
returns-in_default-all-2 c = refused c.in-131.is layer_attr c.in_default-all-2.ensures

pub returns-in_default-all-3 : goal.returns-in_default-all-3
returns-in_default-all-3 c = refused c.in-133.is layer_move c.in_default-all-3.ensures

pub returns-in_default-all-6 : goal.returns-in_default-all-6
returns-in_default-all-6 c =
    let kind : c.args.kind ≡ 152 = grind arith in
    refused kind move_rect c.in_default-all-6.ensures
