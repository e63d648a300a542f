use Rattle.dp_sim_laws.proofs.Histories.{history-spelled}
use Rattle.dp_sim_laws.proofs.laws.histories_are_spelled.Goals as goal

pub returns : goal.returns
returns c =
    history-spelled c.spelled_ids_are_in_order.ensures c.histories_are_short.ensures
    c.events_have_effects.ensures c.steps_lead_on.ensures.kept c.steps_lead_on.ensures.refused
