-- Each by the laws of worlds and of sessions.
use Rattle.dp_drill.proofs.Schedules.{gets-history, same-past}
use Rattle.dp_drill.proofs.laws.drills_need_no_clients.Goals as goal

pub returns-clause-past : goal.returns-clause-past
returns-clause-past c =
    same-past (record {
      stays = c.worlds_stay_worlds.ensures.stays;
      on_kept = c.steps_lead_on.ensures.kept;
      on_refused = c.steps_lead_on.ensures.refused;
      effects = c.events_have_effects.ensures;
      marked = c.histories_are_marked.ensures;
      taking = c.entries_are_taken.ensures;
    }) c.worlds_stay_worlds.ensures.first

pub returns-clause-gets : goal.returns-clause-gets
returns-clause-gets c = λ seed count.
    gets-history (record {
      stays = c.worlds_stay_worlds.ensures.stays;
      on_kept = c.steps_lead_on.ensures.kept;
      on_refused = c.steps_lead_on.ensures.refused;
      effects = c.events_have_effects.ensures;
      marked = c.histories_are_marked.ensures;
      taking = c.entries_are_taken.ensures;
    }) c.worlds_stay_worlds.ensures.first seed count c.histories_are_short.ensures
