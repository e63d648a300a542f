use Rattle.std.proofs.Common.{arith}
use Rattle.dp_fields.specs.Wholes.{begins_all, more_follows}
use Rattle.dp_fields.proofs.field.all.Goals as goal

pub returns-in_default : goal.returns-in_default
returns-in_default g c = λ x s. c.in_default.ensures.none x _ (begins_all s)

pub returns-else-is_empty : goal.returns-else-is_empty
returns-else-is_empty g c = more_follows g.met.F.Field.is_field c.in-Some.ensures.some
    (grind (arith, c.is_empty.ensures, c.if-is_empty.false))
