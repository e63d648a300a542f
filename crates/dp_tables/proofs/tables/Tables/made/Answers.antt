use Rattle.dp_epochs.specs.Effects.{IsEffect}
use Rattle.dp_commit.specs.Placed.{IsSupply}
use Rattle.dp_tables.specs.SessionLog.{state_in}
use Rattle.dp_tables.proofs.KeepLemmas.{ahead-made}
use Rattle.dp_tables.proofs.tables.Tables.made.Goals as goal

pub returns-clause-does : goal.returns-clause-does
returns-clause-does c =
    ahead-made c.with_ahead.result c.supplied-ahead.result
    (λ made. IsEffect (state_in c.args.self.now) c.args.event made.0)
    c.with_ahead.ensures.ahead c.supplied-ahead.ensures.does

pub returns-clause-places : goal.returns-clause-places
returns-clause-places c =
    ahead-made c.with_ahead.result c.supplied-ahead.result
    (λ made. IsSupply c.args.self.now.journal (state_in c.args.self.now) c.args.event made.0
    made.1)
    c.with_ahead.ensures.ahead c.supplied-ahead.ensures.places
