use Rattle.dp_schedule.specs.declared.action.Action.TheVariants.{Act}
use Rattle.dp_sim.specs.World.{after}
use Rattle.dp_sim_world.proofs.CallLemmas.{on-ok-world}
use Rattle.dp_sim_world.proofs.world.WorldScheduleWorld.act.Goals as goal

pub returns-clause-world : goal.returns-clause-world
returns-clause-world g c =
    let w = c.args.self.now in
    let action = Act c.args.client c.args.instruction.now in
    on-ok-world c.play.result c.play.new.self (after w action)
    (c.worlds_stay_worlds.ensures.stays w action c.requires.world) c.play.ensures.ok
