use Rattle.std.proofs.Common.{arith}
use Rattle.dp_tables.proofs.TableLemmas.{live-fits}
use Rattle.dp_tables.proofs.tables.Tables.here.Goals as goal

pub overflow_cast-result : goal.overflow_cast-result
overflow_cast-result c =
    omega (
      arith,
      c.self.inside.live.history.ok.0,
      live-fits c.histories_are_short.ensures c.self.inside c.self.invariant,
    )
