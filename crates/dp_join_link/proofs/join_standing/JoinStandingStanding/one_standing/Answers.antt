use Rattle.dp_join_link.proofs.join_standing.JoinStandingStanding.one_standing.Goals as goal

pub returns-clause-one : goal.returns-clause-one
returns-clause-one c before frame e f first second =
    c.one_answer.ensures.entry frame e f first.0 second.0
