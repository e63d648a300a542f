use Rattle.dp_layers.proofs.Effects.{listed, listed_back}
use Rattle.dp_layers.proofs.laws.listed_modes.Goals as goal

pub returns : goal.returns
returns c = λ mode. (listed mode, listed_back mode)
