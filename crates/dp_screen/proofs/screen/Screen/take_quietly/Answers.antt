use Rattle.std.proofs.Common.{◌≡◌, true, sym, subst}
use Rattle.dp_board.specs.declared.act.Change.{Change}
use Rattle.dp_board.specs.declared.act.UserAct.{UserAct}
use Rattle.dp_fork.specs.Fork.{Became, is_settled}
use Rattle.dp_rollback.specs.Due.{change_of}
use Rattle.dp_screen.specs.Screen.{ScreenGoesOn, Screened, but_for_room}
use Rattle.dp_screen.proofs.Leads.{act_by, counts_due_both, counts_due_first, goes_on, only_moves}
use Rattle.dp_screen.proofs.screen.Screen.take_quietly.Goals as goal

pub returns-in_err-change-clause-counts : goal.returns-in_err-change-clause-counts
returns-in_err-change-clause-counts g c =
    counts_due_first g.B.Board.is_board g.B.Board.drawn g.B.Board.weight g.B.Board.are_apart
    (act_by c.args.user c.args.act.now) c.args.own c.self.inside.confirmed
    c.self.inside.fork c.args.self.now _ _ _ _ c.self.view_is c.take.ensures.counts.due

pub returns-clause-screen : goal.returns-clause-screen
returns-clause-screen g c =
    let a : UserAct _ = act_by c.args.user c.args.act.now in
    subst (λ (s : Screened _ _). ScreenGoesOn g.B.Board.is_board g.B.Board.drawn a c.args.own s
    (record { confirmed = but_for_room c.take.new.self; fork = c.follow.new.self }))
    c.self.view_is (goes_on c.replay_goes_on.ensures g.B.Board.is_board g.B.Board.drawn a
    c.args.own c.self.inside.confirmed c.take.new.self c.self.inside.fork c.follow.new.self
    c.in_ok-change.ensures.stands
    (λ blank before depth acts st of became answers.
    let same : c.in_ok-change.change ≡ change_of depth acts a =
    c.in_ok-change.ensures.change blank depth acts st in
    c.follow.ensures.fork
    (subst (λ (x : Change). is_settled c.args.act.now x c.args.own c.self.inside.fork.acts ≡ true)
    (sym same) (subst (λ (s : Screened _ _). is_settled c.args.act.now (change_of depth acts a)
    c.args.own s.fork.acts ≡ true) (sym c.self.view_is)
    (c.requires (change_of depth acts a) (only_moves depth acts a))))
    before c.take.new.self.board of
    (subst g.B.Board.is_board c.board.ensures.value c.known.ensures)
    (subst (Became g.B.Board.drawn before c.take.new.self.board c.args.act.now) (sym same) became)
    answers))

pub returns-clause-counts : goal.returns-clause-counts
returns-clause-counts g c =
    counts_due_both g.B.Board.is_board g.B.Board.drawn g.B.Board.weight g.B.Board.are_apart
    (act_by c.args.user c.args.act.now) c.args.own c.in_ok-change.change
    c.self.inside.confirmed c.self.inside.fork c.args.self.now _ _ _ _ _ _ c.self.view_is
    (λ blank depth acts st. c.in_ok-change.ensures.change blank depth acts st)
    c.take.ensures.counts.due c.follow.ensures.counts
