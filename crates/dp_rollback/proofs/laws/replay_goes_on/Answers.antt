use Rattle.dp_rollback.proofs.ReplayLemmas.{replay_goes_on}
use Rattle.dp_rollback.proofs.laws.replay_goes_on.Goals as goal

pub returns : goal.returns
returns g c = replay_goes_on _ _ c.stroke_laws.ensures
