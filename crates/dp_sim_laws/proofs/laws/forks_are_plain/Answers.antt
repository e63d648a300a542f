use Rattle.dp_sim_laws.proofs.Forks.{staying, few-answers, fork-plain}
use Rattle.dp_sim_laws.proofs.laws.forks_are_plain.Goals as goal

pub returns : goal.returns
returns c =
    let worlds = c.worlds_stay_worlds.ensures in
    let steps = c.steps_lead_on.ensures in
    let stays = staying c.instructions_are_moves.ensures c.decisions_have_effects.ensures
    c.effects_are_made.ensures steps.kept steps.before c.events_have_effects.ensures
    c.histories_are_marked.ensures c.one_equality.ensures
    c.entries_are_taken.ensures worlds.first worlds.stays in
    record { few = few-answers stays; fork = fork-plain stays }
