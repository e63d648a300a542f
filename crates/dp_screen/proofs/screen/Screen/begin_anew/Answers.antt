use Rattle.std.proofs.Common.{[]}
use Rattle.dp_screen.proofs.Leads.{no_draws, no_tiles}
use Rattle.dp_screen.proofs.screen.Screen.begin_anew.Goals as goal

pub returns-in_err-take-clause-no_draw : goal.returns-in_err-take-clause-no_draw
returns-in_err-take-clause-no_draw g c =
    no_draws g.B.Board.weight _ _ _ _
    (c.take.ensures.counts c.args.blank c.args.depth [] c.in_ok-fresh.ensures.screen)

pub returns-in_err-take-clause-no_tile : goal.returns-in_err-take-clause-no_tile
returns-in_err-take-clause-no_tile g c =
    no_tiles g.B.Board.weight _ _ _ _
    (c.take.ensures.counts c.args.blank c.args.depth [] c.in_ok-fresh.ensures.screen)

pub returns-clause-screen : goal.returns-clause-screen
returns-clause-screen g c =
    c.in_ok-take.ensures.screen c.args.blank c.args.depth [] c.in_ok-fresh.ensures.screen tt

pub returns-clause-no_draw : goal.returns-clause-no_draw
returns-clause-no_draw g c =
    no_draws g.B.Board.weight _ _ _ _
    (c.take.ensures.counts c.args.blank c.args.depth [] c.in_ok-fresh.ensures.screen)

pub returns-clause-no_tile : goal.returns-clause-no_tile
returns-clause-no_tile g c =
    no_tiles g.B.Board.weight _ _ _ _
    (c.take.ensures.counts c.args.blank c.args.depth [] c.in_ok-fresh.ensures.screen)
