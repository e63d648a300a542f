use Rattle.std.proofs.Common.{sym, subst}
use Rattle.dp_rollback.specs.Rollback.{StandsFor, put_on}
use Rattle.dp_rollback.proofs.StandLemmas.{StandsFor-spare}
use Rattle.dp_rollback.proofs.rollback.Rollback.put.Goals as goal

pub returns-clause-stands : goal.returns-clause-stands
returns-clause-stands g c = λ blank depth acts st.
    let draw = g.B.Board.drawn in
    let now = c.settle.new.self in
    subst (StandsFor draw blank depth acts) (sym c.settle.ensures)
    (StandsFor-spare draw blank depth acts (put_on c.args.ready c.args.self.now) now.spare st)
