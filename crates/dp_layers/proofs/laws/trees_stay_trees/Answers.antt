use Rattle.dp_layers.proofs.Effects.{tree-after}
use Rattle.dp_layers.proofs.Contents.{tree-none, tree-filled}
use Rattle.dp_layers.proofs.laws.trees_stay_trees.Goals as goal

pub returns-clause-empty : goal.returns-clause-empty
returns-clause-empty g c = tree-none

pub returns-clause-after : goal.returns-clause-after
returns-clause-after g c = λ rows op x tree fits. tree-after rows tree op x fits

pub returns-clause-filled : goal.returns-clause-filled
returns-clause-filled g c = λ rows id x tree paint. tree-filled rows id x tree paint
