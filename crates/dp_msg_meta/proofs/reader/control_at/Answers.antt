use Rattle.std.proofs.lemmas.Result.{err_from_is_err_and}
use Rattle.dp_msg_meta.proofs.Forms.{hello_fails}
use Rattle.dp_msg_meta.proofs.reader.control_at.Goals as goal

pub returns-in_err-name-in-0-clause-answers : goal.returns-in_err-name-in-0-clause-answers
returns-in_err-name-in-0-clause-answers c =
    let p = err_from_is_err_and c.from_residual.result c.from_residual.ensures.1 in
    rw (p.1, p.2)
    (hello_fails c.args.payload.now c.in-0.is c.in_err-name-in-0.field-0.0
    c.in_err-name-in-0.ensures)
