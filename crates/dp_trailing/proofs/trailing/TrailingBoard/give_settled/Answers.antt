use Rattle.std.proofs.Common.{◌∙◌}
use Rattle.dp_trailing.proofs.TrailingLemmas.{given-apart}
use Rattle.dp_trailing.proofs.trailing.TrailingBoard.give_settled.Goals as goal

pub returns-clause-trails : goal.returns-clause-trails
returns-clause-trails g c =
    let was = c.self.inside in
    given-apart g.B.Board.drawn c.args.self.now
    (record { board = was.board; table = was.table; base = was.base; kept = was.kept.items })
    c.oldest-first.result c.let_go.new.base c.in_ok-settled.settled.items c.hold_in.new.kept.items
    c.self.view_is c.in_ok-settled.ensures.given c.in_ok-settled.ensures.base
    (c.hold_in.ensures.items ∙ c.in_ok-settled.ensures.items)
