use Rattle.dp_layers.proofs.Contents.{layers_of-mapped, contents-mapped, content-mapped}
use Rattle.dp_layers.proofs.Contents.{filled-mapped, tree-mapped_contents}
use Rattle.dp_layers.proofs.Mapping.{after-mapped}
use Rattle.dp_layers.proofs.laws.contents_ride_along.Goals as goal

pub returns-clause-layers : goal.returns-clause-layers
returns-clause-layers g c = λ f rows. layers_of-mapped f rows

pub returns-clause-contents : goal.returns-clause-contents
returns-clause-contents g c = λ f rows. contents-mapped f rows

pub returns-clause-content : goal.returns-clause-content
returns-clause-content g c = λ f rows id. content-mapped f rows id

pub returns-clause-filled : goal.returns-clause-filled
returns-clause-filled g c = λ f rows id x. filled-mapped f rows id x

pub returns-clause-after : goal.returns-clause-after
returns-clause-after g c = λ f rows op x. after-mapped f rows op x

pub returns-clause-tree : goal.returns-clause-tree
returns-clause-tree g c = λ f rows tree. tree-mapped_contents f rows tree
