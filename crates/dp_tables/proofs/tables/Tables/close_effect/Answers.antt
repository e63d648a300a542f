use Rattle.std.proofs.Common.{sym}
use Rattle.dp_tables.specs.SessionLog.{state_in}
use Rattle.dp_tables.specs.Inside.{seen}
use Rattle.dp_tables.proofs.TableLemmas.{of-ledger}
use Rattle.dp_commit.proofs.CauseLemmas.{leave-cause}
use Rattle.dp_tables.proofs.tables.Tables.close_effect.Goals as goal

pub returns-in-Some : goal.returns-in-Some
returns-in-Some c =
    let t = c.self.inside in
    let s = state_in c.args.self.now in
    let are = of-ledger t c.args.self.now c.self.invariant c.self.view_is in
    leave-cause s (seen t) are c.operators_stay.ensures c.args.conn c.in-Some.connection
    (sym c.in-Some.ensures) c.next_operator.result (c.next_operator.ensures s.live are.stands)
