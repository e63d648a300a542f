use Rattle.std.proofs.Common.{sym, ◌∙◌}
use Rattle.dp_layers.proofs.Holding.{value_layers, value_tree}
use Rattle.dp_layers.proofs.tree.Tree.rows.Goals as goal

pub returns-clause-rows : goal.returns-clause-rows
returns-clause-rows g c =
    c.as_slice.ensures
    ∙ sym (value_layers c.self.inside.contents.items c.self.inside.rows c.self.invariant
    c.args.self.now c.self.view_is)

pub returns-clause-tree : goal.returns-clause-tree
returns-clause-tree g c =
    value_tree c.self.inside.contents.items c.self.inside.rows c.self.invariant c.args.self.now
    c.self.view_is
