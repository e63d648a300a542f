use Rattle.dp_hall_tests.proofs.work.both.Goals as goal

pub returns-clause-returns : goal.returns-clause-returns
returns-clause-returns g c =
    c.seats_return.ensures.pairs _ _ _ _ _ _ c.in-Ok.ensures.given.1
    c.run_both-outputs.ensures.two c.run_both-outputs.ensures.one c.join_into.ensures.views
