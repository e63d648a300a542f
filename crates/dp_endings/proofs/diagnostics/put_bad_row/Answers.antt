use Rattle.dp_endings.proofs.Digits.{row-begun, row-ended, row-part, row-whole}
use Rattle.dp_endings.proofs.diagnostics.put_bad_row.Goals as goal

pub returns-in_err-put_place-clause-prefix : goal.returns-in_err-put_place-clause-prefix
returns-in_err-put_place-clause-prefix g c =
    row-begun c.args.n c.args.bytes.now _ _ c.in_err-put_place.ensures.prefix

pub returns-in_err-put_digits-clause-prefix : goal.returns-in_err-put_digits-clause-prefix
returns-in_err-put_digits-clause-prefix g c =
    row-part c.args.n c.args.bytes.now _ _ _ c.in_ok-put_place.ensures.line
    c.in_err-put_digits.ensures.prefix

pub returns-clause-prefix : goal.returns-clause-prefix
returns-clause-prefix g c =
    row-ended c.args.n c.args.bytes.now _ _ _ _ c.in_ok-put_place.ensures.line
    c.in_ok-put_digits.ensures.line c.put_all.ensures.prefix

pub returns-clause-line : goal.returns-clause-line
returns-clause-line g c =
    row-whole c.args.n c.args.bytes.now _ _ c.put_all.result _ _ c.in_ok-put_place.ensures.line
    c.in_ok-put_digits.ensures.line c.put_all.ensures.written
