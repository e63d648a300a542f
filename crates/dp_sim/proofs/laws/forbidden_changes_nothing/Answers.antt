use Rattle.dp_sim.proofs.LawForbidden.{forbidden-nothing}
use Rattle.dp_sim.proofs.laws.forbidden_changes_nothing.Goals as goal

pub returns : goal.returns
returns c =
    forbidden-nothing c.others_do_not_count.ensures c.forbidden_changes_no_right.ensures
    c.events_have_effects.ensures
