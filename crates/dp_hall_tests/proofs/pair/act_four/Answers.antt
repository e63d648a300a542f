use Rattle.dp_hall_tests.proofs.pair.act_four.Goals as goal

pub returns-clause-returns : goal.returns-clause-returns
returns-clause-returns g c =
    c.seats_return.ensures.pairs _ _ _ _ _ _ c.in-Ok.ensures.given.1
    c.run_pairs.ensures.two c.run_pairs.ensures.one c.join_into.ensures.views
