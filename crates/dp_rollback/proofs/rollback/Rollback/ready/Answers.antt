use Rattle.std.proofs.lemmas.Result.{IfOk-weaker}
use Rattle.dp_rollback.proofs.StandLemmas.{FitsOn-made}
use Rattle.dp_rollback.proofs.ReadyLemmas.{ready-stands, ready-change, counts-due, none-due}
use Rattle.dp_rollback.proofs.rollback.Rollback.ready.Goals as goal

pub returns-in_err-next-clause-counts : goal.returns-in_err-next-clause-counts
returns-in_err-next-clause-counts g c =
    none-due g.B.Board.drawn g.B.Board.weight c.args.self.now _ c.args.draws.now c.args.tiles.now

pub returns-clause-fits : goal.returns-clause-fits
returns-clause-fits g c =
    IfOk-weaker c.made.result _ _ (λ next is. FitsOn-made g.B.Board.drawn c.admit.new.self
    c.in_ok-next.next next c.made.ensures.known is c.in_ok-next.ensures.room) c.made.ensures.next

pub returns-clause-stands : goal.returns-clause-stands
returns-clause-stands g c =
    IfOk-weaker c.made.result _ _ (λ next is. ready-stands c.stroke_laws.ensures g.B.Board.drawn
    c.args.self.now c.admit.new.self c.in_ok-next.next _ c.in_ok-next.ensures.same
    c.in_ok-next.ensures.act c.made.ensures.known next is) c.made.ensures.next

pub returns-clause-change : goal.returns-clause-change
returns-clause-change g c =
    IfOk-weaker c.made.result _ _ (λ next is. ready-change c.stroke_laws.ensures g.B.Board.drawn
    c.args.self.now c.admit.new.self c.in_ok-next.next _ c.in_ok-next.ensures.same
    c.in_ok-next.ensures.act c.made.ensures.known next is) c.made.ensures.next

pub returns-clause-counts : goal.returns-clause-counts
returns-clause-counts g c =
    counts-due c.stroke_laws.ensures g.B.Board.drawn g.B.Board.weight c.args.self.now
    c.admit.new.self c.in_ok-next.next _ _ _ _ _ c.in_ok-next.ensures.same
    c.in_ok-next.ensures.act c.made.ensures.known c.made.ensures.counts
