use Rattle.std.proofs.Common.{◌≤◌, length, arith, rules}
use Rattle.dp_history.proofs.ItemLemmas.{name-tested}
use Rattle.dp_history.proofs.item.name_text.Goals as goal

pub returns-clause-named : goal.returns-clause-named
returns-clause-named c =
    let above : 1 ≤ length c.args.name.now = search rules in
    name-tested c.args.name.now c.in_ok-from_slice.field-0.items c.from_vec.result
    c.in_ok-from_slice.ensures.items
    above (omega arith) c.from_vec.ensures.valid.0 c.from_vec.ensures.valid.1
