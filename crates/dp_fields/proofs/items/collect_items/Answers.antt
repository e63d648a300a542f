use Rattle.std.proofs.Common.{arith}
use Rattle.std.proofs.lemmas.Grind.{common_steps}
use Rattle.dp_fields.specs.Sequences.{taken_more, taken_all, ended}
use Rattle.dp_fields.proofs.items.collect_items.Goals as goal

pub loop-item-preserved : goal.loop-item-preserved
loop-item-preserved g c =
    let more = taken_more g.met.T.Field.is_field c.loop-item.invariant c.in-Some.ensures.some
    c.in-Some.ensures.shorter in
    grind (arith, common_steps, more, c.in_ok-push.ensures.items)

pub returns : goal.returns
returns g c =
    let zs = c.loop-item.invariant.rest_is c.requires.0 c.requires.1 in
    taken_all c.loop-item.invariant (ended c.in_default.ensures.none zs.0 zs.1).0
