use Rattle.dp_sim_laws.proofs.Steps.{goes-by}
use Rattle.dp_sim_laws.proofs.laws.clients_go_by_their_steps.Goals as goal

pub returns : goal.returns
returns c = goes-by c.instructions_are_moves.ensures
