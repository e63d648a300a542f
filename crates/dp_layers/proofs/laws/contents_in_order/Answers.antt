use Rattle.dp_layers.proofs.Contents.{contents-by_id, length-contents}
use Rattle.dp_layers.proofs.laws.contents_in_order.Goals as goal

pub returns-clause-count : goal.returns-clause-count
returns-clause-count g c = λ rows tree. length-contents rows tree.contents

pub returns-clause-by_id : goal.returns-clause-by_id
returns-clause-by_id g c = λ rows tree. contents-by_id rows tree.layers.distinct
