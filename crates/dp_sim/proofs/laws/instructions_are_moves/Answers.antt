use Rattle.dp_sim.proofs.Moves.{exchange-moved}
use Rattle.dp_sim.proofs.laws.instructions_are_moves.Goals as goal

pub returns : goal.returns
returns c = exchange-moved
