use Rattle.dp_sim.proofs.LawWorlds.{action-world}
use Rattle.dp_sim.proofs.laws.worlds_stay_worlds.Goals as goal

pub returns-clause-stays : goal.returns-clause-stays
returns-clause-stays c =
    action-world (record {
      on_kept = c.steps_lead_on.ensures.kept;
      on_refused = c.steps_lead_on.ensures.refused;
      before = c.steps_lead_on.ensures.before;
      effects = c.events_have_effects.ensures;
      histories = c.histories_grow.ensures;
      epochs = c.epochs_rise.ensures.rise;
      marked = c.histories_are_marked.ensures;
      taking = c.entries_are_taken.ensures;
    })
