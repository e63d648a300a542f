use Rattle.std.proofs.Common.{◌≡◌, true, sym, ◌∙◌}
use Rattle.dp_tables.specs.SessionLog.{state_in}
use Rattle.dp_tables.specs.Inside.{seen}
use Rattle.dp_tables.proofs.TableLemmas.{of-ledger}
use Rattle.dp_commit.proofs.CauseLemmas.{free-marked, join-cause}
use Rattle.dp_tables.proofs.tables.Tables.open_effect.Goals as goal

pub returns-in-Some : goal.returns-in-Some
returns-in-Some c = λ name registered is.
    let t = c.self.inside in
    let are = of-ledger t c.args.self.now c.self.invariant c.self.view_is in
    let named : c.args.named ≡ true = c.if-not-named.false in
    join-cause (state_in c.args.self.now) (seen t) are name registered c.in-Some.user
    c.first_operator.result (sym is ∙ named) c.in-Some.ensures c.first_operator.ensures

pub returns-in-None : goal.returns-in-None
returns-in-None c = λ name registered is.
    let t = c.self.inside in
    let are = of-ledger t c.args.self.now c.self.invariant c.self.view_is in
    let named : c.args.named ≡ true = c.if-not-named.false in
    (sym is ∙ named, free-marked (state_in c.args.self.now) (seen t) are ∙ sym c.in-None.ensures)
