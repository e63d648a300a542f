use Rattle.std.proofs.Common.{◌≡◌, arith}
use Rattle.std.proofs.lemmas.Result.{err_from_is_err_and}
use Rattle.dp_msg_meta.proofs.Forms.{join_fails, owners_fails, chat_fails, trusted_fails}
use Rattle.dp_msg_meta.proofs.Forms.{user_acl_fails, layer_acl_fails}
use Rattle.dp_msg_meta.proofs.reader.read_listed_meta.Goals as goal

pub returns-in_err-registered-in-32 : goal.returns-in_err-registered-in-32
returns-in_err-registered-in-32 c =
    let p = err_from_is_err_and c.from_residual.result c.from_residual.ensures.1 in
    rw (p.1, p.2)
    (join_fails c.args.payload.now c.in-32.is c.in_err-registered-in-32.field-0.0
    c.in_err-registered-in-32.ensures)

pub returns-in_err-ids-in-34 : goal.returns-in_err-ids-in-34
returns-in_err-ids-in-34 c =
    let p = err_from_is_err_and c.from_residual-in_err-ids-in-34.result
    c.from_residual-in_err-ids-in-34.ensures.1 in
    rw (p.1, p.2)
    (owners_fails c.args.payload.now c.in-34.is c.in_err-ids-in-34.field-0.0
    c.in_err-ids-in-34.ensures)

pub returns-in_err-text-in-35 : goal.returns-in_err-text-in-35
returns-in_err-text-in-35 c =
    let p = err_from_is_err_and c.from_residual-in_err-text-in-35.result
    c.from_residual-in_err-text-in-35.ensures.1 in
    rw (p.1, p.2)
    (chat_fails c.args.payload.now c.in-35.is c.in_err-text-in-35.field-0.0
    c.in_err-text-in-35.ensures)

pub returns-in_err-ids-in-36 : goal.returns-in_err-ids-in-36
returns-in_err-ids-in-36 c =
    let p = err_from_is_err_and c.from_residual-in_err-ids-in-36.result
    c.from_residual-in_err-ids-in-36.ensures.1 in
    rw (p.1, p.2)
    (trusted_fails c.args.payload.now c.in-36.is c.in_err-ids-in-36.field-0.0
    c.in_err-ids-in-36.ensures)

pub returns-in_err-ids-in-66 : goal.returns-in_err-ids-in-66
returns-in_err-ids-in-66 c =
    let p = err_from_is_err_and c.from_residual-in_err-ids-in-66.result
    c.from_residual-in_err-ids-in-66.ensures.1 in
    rw (p.1, p.2)
    (user_acl_fails c.args.payload.now c.in-66.is c.in_err-ids-in-66.field-0.0
    c.in_err-ids-in-66.ensures)

pub returns-in_err-layer-in_default : goal.returns-in_err-layer-in_default
returns-in_err-layer-in_default c =
    let p = err_from_is_err_and c.from_residual-in_err-layer-in_default.result
    c.from_residual-in_err-layer-in_default.ensures.1 in
    let kind : c.args.kind ≡ 67 = grind arith in
    rw (p.1, p.2)
    (layer_acl_fails c.args.payload.now kind c.in_err-layer-in_default.field-0.0
    c.in_err-layer-in_default.ensures)
