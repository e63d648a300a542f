use Rattle.std.proofs.Common.{subst, sym}
use Rattle.dp_board.specs.Counts.{CountsFew}
use Rattle.dp_rollback.specs.Moves.{due_in}
use Rattle.dp_rollback.proofs.ReadyLemmas.{IsKnown-unmoved}
use Rattle.dp_rollback.proofs.StandLemmas.{FitsOn-made}
use Rattle.dp_rollback.proofs.rollback.Rollback.add.Goals as goal

pub returns-then-is_plain-clause-known : goal.returns-then-is_plain-clause-known
returns-then-is_plain-clause-known g c =
    IsKnown-unmoved c.args.self.now c.args.act c.draw_here.ensures.sender c.draw_here.ensures.known
    c.is_plain.ensures.order (c.is_plain.ensures.unmoved c.if-is_plain.true)

pub returns-then-is_plain-clause-counts : goal.returns-then-is_plain-clause-counts
returns-then-is_plain-clause-counts g c =
    subst (λ m. CountsFew g.B.Board.weight (due_in c.args.self.now c.args.act.act m)
    c.args.draws.now c.draw_here.new.draws c.args.tiles.now c.draw_here.new.tiles)
    (sym (c.is_plain.ensures.unmoved c.if-is_plain.true)) c.draw_here.ensures.counts

pub settle-requires : goal.settle-requires
settle-requires g c =
    FitsOn-made g.B.Board.drawn c.args.self.now c.args.act c.in_ok-ready.ready c.made.ensures.known
    c.in_ok-ready.ensures.next c.requires.room

pub returns-clause-added : goal.returns-clause-added
returns-clause-added g c = record {
  next = c.in_ok-ready.ready;
  made = c.in_ok-ready.ensures.next;
  same = c.settle.ensures;
  tells = c.change-change.ensures;
}
