use Rattle.std.proofs.Common.{◌∙◌, subst}
use Rattle.dp_board.specs.declared.act.UserAct.{UserAct}
use Rattle.dp_screen.specs.Screen.{ScreenGoesOn, Screened, but_for_room}
use Rattle.dp_screen.proofs.Leads.{act_by, counts_due_first, counts_due_both, fork_goes_on, goes_on}
use Rattle.dp_screen.proofs.Leads.{put_board}
use Rattle.dp_screen.proofs.screen.Screen.take_anew.Goals as goal

pub returns-in_err-ready-clause-counts : goal.returns-in_err-ready-clause-counts
returns-in_err-ready-clause-counts g c =
    counts_due_first g.B.Board.is_board g.B.Board.drawn g.B.Board.weight g.B.Board.are_apart
    (act_by c.args.user c.args.act.now) c.args.own c.self.inside.confirmed
    c.self.inside.fork c.args.self.now _ _ _ _ c.self.view_is c.ready.ensures.counts.due

pub returns-in_err-settle-clause-counts : goal.returns-in_err-settle-clause-counts
returns-in_err-settle-clause-counts g c =
    counts_due_both g.B.Board.is_board g.B.Board.drawn g.B.Board.weight g.B.Board.are_apart
    (act_by c.args.user c.args.act.now) c.args.own c.change-change.result
    c.self.inside.confirmed c.self.inside.fork c.args.self.now _ _ _ _ _ _ c.self.view_is
    (λ blank depth acts st. c.change-change.ensures
    ∙ c.in_ok-ready.ensures.change blank depth acts st) c.ready.ensures.counts.due
    c.settle.ensures.counts

pub returns-clause-screen : goal.returns-clause-screen
returns-clause-screen g c =
    let a : UserAct _ = act_by c.args.user c.args.act.now in
    subst (λ (s : Screened _ _). ScreenGoesOn g.B.Board.is_board g.B.Board.drawn a c.args.own s
    (record { confirmed = but_for_room c.put.new.self; fork = c.settle.new.self }))
    c.self.view_is (goes_on c.replay_goes_on.ensures g.B.Board.is_board g.B.Board.drawn a
    c.args.own c.self.inside.confirmed c.put.new.self c.self.inside.fork c.settle.new.self
    (λ blank depth acts st. c.put.ensures.stands blank depth _
    (c.in_ok-ready.ensures.stands blank depth acts st))
    (fork_goes_on g.B.Board.is_board g.B.Board.drawn a c.args.own c.self.inside.confirmed
    c.self.inside.fork c.settle.new.self c.board.result.now c.put.new.self.board
    c.change-change.result
    (put_board c.in_ok-ready.ready c.ready.new.self c.put.new.self c.board.result.now
    c.put.ensures.after c.board.ensures)
    (λ blank depth acts st. c.change-change.ensures
    ∙ c.in_ok-ready.ensures.change blank depth acts st) c.in_ok-settle.ensures.fork))

pub returns-clause-counts : goal.returns-clause-counts
returns-clause-counts g c =
    counts_due_both g.B.Board.is_board g.B.Board.drawn g.B.Board.weight g.B.Board.are_apart
    (act_by c.args.user c.args.act.now) c.args.own c.change-change.result
    c.self.inside.confirmed c.self.inside.fork c.args.self.now _ _ _ _ _ _ c.self.view_is
    (λ blank depth acts st. c.change-change.ensures
    ∙ c.in_ok-ready.ensures.change blank depth acts st) c.ready.ensures.counts.due
    c.settle.ensures.counts
