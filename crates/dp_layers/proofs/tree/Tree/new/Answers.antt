use Rattle.dp_layers.proofs.Holding.{holding_none}
use Rattle.dp_layers.proofs.tree.Tree.new.Goals as goal

pub invariant_of-result : goal.invariant_of-result
invariant_of-result g c =
    holding_none c.none.result c.new.result.items c.none.ensures c.new.ensures.items
