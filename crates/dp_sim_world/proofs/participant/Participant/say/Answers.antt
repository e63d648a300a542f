use Rattle.dp_sim_world.proofs.participant.Participant.say.Goals as goal

pub returns-in_err-say-clause-counts : goal.returns-in_err-say-clause-counts
returns-in_err-say-clause-counts g c = c.clients_show.ensures.counts _ _ _ _ _ c.say.ensures.counts

pub returns-in_err-copy-clause-counts : goal.returns-in_err-copy-clause-counts
returns-in_err-copy-clause-counts g c =
    c.clients_show.ensures.counts _ _ _ _ _ c.say.ensures.counts

pub returns-in_err-push_back-clause-counts : goal.returns-in_err-push_back-clause-counts
returns-in_err-push_back-clause-counts g c =
    c.clients_show.ensures.counts _ _ _ _ _ c.say.ensures.counts

pub returns-clause-counts : goal.returns-clause-counts
returns-clause-counts g c = c.clients_show.ensures.counts _ _ _ _ _ c.say.ensures.counts
