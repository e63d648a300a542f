use Rattle.std.proofs.Common.{◌-◌, subst, sym}
use Rattle.std.proofs.lemmas.Result.{on_ok_weaker}
use Rattle.dp_board.specs.Table.{oldest_in}
use Rattle.dp_trailing.specs.Trailing.{Trails}
use Rattle.dp_trailing.proofs.TrailingLemmas.{Trails-drawn_up_to}
use Rattle.dp_trailing.proofs.trailing.TrailingBoard.settle.Goals as goal

pub returns-clause-trails : goal.returns-clause-trails
returns-clause-trails g c =
    let draw = g.B.Board.drawn in
    let t = c.args.self.now in
    on_ok_weaker c.draw_to_reach.result (λ drawn blank depth acts trails.
    subst (Trails draw blank depth acts) (sym drawn)
    (Trails-drawn_up_to draw t (oldest_in t.table - t.base) blank depth acts trails))
    c.draw_to_reach.ensures.drawn
