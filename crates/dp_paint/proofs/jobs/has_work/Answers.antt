use Rattle.std.proofs.Common.{◌≡◌, ◌∙◌, ◌%◌, ◌/◌, arith, sym}
use Rattle.dp_paint.proofs.Counts.{waits_some}
use Rattle.dp_ops.proofs.Ops.{known_none}
use Rattle.dp_paint.proofs.jobs.has_work.Goals as goal

pub returns-then-is_empty-clause-none : goal.returns-then-is_empty-clause-none
returns-then-is_empty-clause-none c = λ no col row in_cols in_rows same.
    let number = c.args.number in
    let at_col : number % 64 ≡ col = omega (arith, same, in_cols, c.known.ensures.cols) in
    let at_row : number / 64 ≡ row = omega (arith, same, in_cols, c.known.ensures.cols) in
    (rw (at_col, at_row) at (sym c.ops.ensures
    ∙ known_none c.ops.result.now c.is_empty.result c.is_empty.ensures c.if-is_empty.true))

pub returns-clause-some : goal.returns-clause-some
returns-clause-some c = λ yes.
    waits_some c.args.lists.now c.args.number c.ops.result.now c.is_empty.result c.ops.ensures
    c.is_empty.ensures c.if-is_empty.false
