use Rattle.dp_schedule.specs.declared.action.Action.TheVariants.{Join}
use Rattle.dp_sim.specs.World.{after}
use Rattle.dp_sim_world.proofs.CallLemmas.{on-ok-world}
use Rattle.dp_sim_world.proofs.world.WorldScheduleWorld.join.Goals as goal

pub returns-clause-world : goal.returns-clause-world
returns-clause-world g c =
    let w = c.args.self.now in
    let action = Join c.args.name c.args.registered in
    on-ok-world c.admit.result c.admit.new.self (after w action)
    (c.worlds_stay_worlds.ensures.stays w action c.requires) c.admit.ensures.ok
