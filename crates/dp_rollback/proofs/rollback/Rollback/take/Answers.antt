use Rattle.std.proofs.lemmas.Result.{IfOk-weaker, on_err_weaker}
use Rattle.dp_rollback.proofs.ReadyLemmas.{added-stands, added-change, counts-due, none-due}
use Rattle.dp_rollback.proofs.ReadyLemmas.{still-same, stands-now}
use Rattle.dp_rollback.proofs.rollback.Rollback.take.Goals as goal

pub returns-in_err-next-clause-counts : goal.returns-in_err-next-clause-counts
returns-in_err-next-clause-counts g c =
    none-due g.B.Board.drawn g.B.Board.weight c.args.self.now _ c.args.draws.now c.args.tiles.now

pub returns-clause-stands : goal.returns-clause-stands
returns-clause-stands g c =
    IfOk-weaker c.add.result _ _ (λ change is blank depth acts st. added-stands
    c.stroke_laws.ensures g.B.Board.drawn c.args.self.now c.admit.new.self c.add.new.self
    c.in_ok-next.next _ change c.in_ok-next.ensures.same c.in_ok-next.ensures.act
    c.add.ensures.known is blank depth acts st) c.add.ensures.added

pub returns-clause-change : goal.returns-clause-change
returns-clause-change g c =
    IfOk-weaker c.add.result _ _ (λ change is. added-change c.stroke_laws.ensures g.B.Board.drawn
    c.args.self.now c.admit.new.self c.add.new.self c.in_ok-next.next _ change
    c.in_ok-next.ensures.same c.in_ok-next.ensures.act c.add.ensures.known is) c.add.ensures.added

pub returns-clause-err : goal.returns-clause-err
returns-clause-err g c =
    on_err_weaker c.add.result (λ is. still-same c.args.self.now c.admit.new.self c.add.new.self
    c.in_ok-next.ensures.same is) c.add.ensures.err

pub returns-clause-still : goal.returns-clause-still
returns-clause-still g c =
    on_err_weaker c.add.result (λ is blank depth acts st. stands-now g.B.Board.drawn
    c.args.self.now c.add.new.self (still-same c.args.self.now c.admit.new.self c.add.new.self
    c.in_ok-next.ensures.same is) blank depth acts st) c.add.ensures.err

pub returns-clause-counts : goal.returns-clause-counts
returns-clause-counts g c =
    counts-due c.stroke_laws.ensures g.B.Board.drawn g.B.Board.weight c.args.self.now
    c.admit.new.self c.in_ok-next.next _ _ _ _ _ c.in_ok-next.ensures.same
    c.in_ok-next.ensures.act c.add.ensures.known c.add.ensures.counts
