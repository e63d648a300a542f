use Rattle.dp_layers.proofs.Contents.{same_tree}
use Rattle.dp_layers.proofs.laws.one_tree.Goals as goal

pub returns : goal.returns
returns g c =
    λ a b left right layers contents. same_tree a b left.contents right.contents layers contents
