use Rattle.dp_sim.specs.World.{world_after}
use Rattle.dp_sim_laws.proofs.Speaking.{spoken}
use Rattle.dp_sim_laws.proofs.laws.schedules_are_spelled.Goals as goal

pub returns : goal.returns
returns c =
    let spoken_after = spoken (record {
      moves = c.instructions_are_moves.ensures;
      first = c.worlds_stay_worlds.ensures.first;
      stays = c.worlds_stay_worlds.ensures.stays;
      before = c.steps_lead_on.ensures.before;
      histories = c.histories_are_spelled.ensures;
      short = c.histories_are_short.ensures;
      snapshots = c.snapshots_are_spelled.ensures;
    }) in
    record {
      entries = λ actions epoch each.
          let w = world_after actions in
          let h = spoken_after actions each in
          c.histories_are_spelled.ensures w.past epoch h.speaks.journal h.world.events;
      events = λ actions each. (spoken_after actions each).speaks.journal;
    }
