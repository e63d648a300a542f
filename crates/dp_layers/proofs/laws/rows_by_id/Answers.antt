use Rattle.dp_layers.proofs.Trees.{All-itself}
use Rattle.dp_layers.proofs.laws.rows_by_id.Goals as goal

pub returns : goal.returns
returns c = λ rows tree. All-itself rows tree.distinct
