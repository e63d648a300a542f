use Rattle.dp_epochs.specs.Past.{state_of}
use Rattle.dp_sim.specs.World.{world_after}
use Rattle.dp_sim.proofs.LawWorlds.{all-show}
use Rattle.dp_sim.proofs.laws.headline.Goals as goal

pub returns : goal.returns
returns c = λ actions. record {
  clients = all-show c.worlds_stay_worlds.ensures.stays c.worlds_stay_worlds.ensures.first actions;
  forbidden = c.forbidden_changes_nothing.ensures (state_of (world_after actions).past);
  allowed = c.histories_are_permitted.ensures (world_after actions).past;
}
