use Rattle.std.proofs.Common.{◌∙◌, arith, sym}
use Rattle.dp_ops.proofs.Ops.{is_packed_command, is_packed_dab}
use Rattle.dp_ops.proofs.op.PackedOp.unpacked.Goals as goal

pub returns-then-self-lt-COMMAND : goal.returns-then-self-lt-COMMAND
returns-then-self-lt-COMMAND c =
    let low = c.self.inside.low in
    let high = c.self.inside.high in
    c.unpacked_dab.ensures ∙ sym (is_packed_dab low high (omega arith) (omega arith))
    ∙ c.self.view_is

pub returns : goal.returns
returns c =
    let low = c.self.inside.low in
    let high = c.self.inside.high in
    sym (is_packed_command low high (omega arith)) ∙ c.self.view_is
