use Rattle.std.proofs.Common.{arith}
use Rattle.std.proofs.lemmas.Grind.{common_steps}
use Rattle.dp_fields.specs.Wholes.{both_fail}
use Rattle.dp_fields.proofs.tail.read_both.Goals as goal

pub returns-in-Err : goal.returns-in-Err
returns-in-Err g c =
    let fail = both_fail g.T.Tail.spelling g.T.Tail.valid g.met.F.Field.is_field
    c.in-Some.ensures.some c.in-Err.error in
    grind (arith, common_steps, fail, c.in-Err.ensures)
