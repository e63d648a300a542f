use Rattle.std.proofs.Common.{◌≡◌, false, subst, sym}
use Rattle.std.specs.List.{list_any}
use Rattle.dp_board.specs.Moves.{is_draw}
use Rattle.dp_fork.specs.Fork.{Forked, IsForkOf}
use Rattle.dp_fork.proofs.Settling.{apart_from_none, beside, let_go}
use Rattle.dp_fork.proofs.fork.Fork.follow_command.Goals as goal

pub returns-then-not-self-clause-fork : goal.returns-then-not-self-clause-fork
returns-then-not-self-clause-fork g c = λ none before of.
    subst (IsForkOf g.B.Board.is_board g.B.Board.drawn (g.B.Board.drawn before c.args.op.now))
    (sym c.clear_board.ensures)
    (let_go g.B.Board.is_board g.B.Board.drawn (g.B.Board.drawn before c.args.op.now)
    c.self.inside.acts.items
    (subst (λ (f : Forked _ _). list_any is_draw f.acts ≡ false) (sym c.self.view_is) none)
    (c.laws.ensures.keeps before c.args.op.now of.board))

pub returns-in-Ok-clause-fork : goal.returns-in-Ok-clause-fork
returns-in-Ok-clause-fork g c = λ none before of.
    subst (λ b. IsForkOf g.B.Board.is_board g.B.Board.drawn
    (g.B.Board.drawn before c.args.op.now)
    (record { board = b; acts = c.self.inside.acts.items }))
    (sym c.in-Ok.ensures.drawn)
    (beside g.B.Board.is_board g.B.Board.drawn g.B.Board.are_apart c.laws.ensures.keeps
    c.laws.ensures.commutes c.args.op.now before c.self.inside.board c.self.inside.acts.items
    (subst (IsForkOf g.B.Board.is_board g.B.Board.drawn before) (sym c.self.view_is) of)
    (apart_from_none g.B.Board.are_apart c.args.op.now c.self.inside.acts.items
    (subst (λ (f : Forked _ _). list_any is_draw f.acts ≡ false) (sym c.self.view_is) none)))

pub returns-in-Err-clause-fork : goal.returns-in-Err-clause-fork
returns-in-Err-clause-fork g c = λ none before of.
    subst (IsForkOf g.B.Board.is_board g.B.Board.drawn (g.B.Board.drawn before c.args.op.now))
    (sym c.clear_board-in-Err.ensures)
    (let_go g.B.Board.is_board g.B.Board.drawn (g.B.Board.drawn before c.args.op.now)
    c.self.inside.acts.items
    (subst (λ (f : Forked _ _). list_any is_draw f.acts ≡ false) (sym c.self.view_is) none)
    (c.laws.ensures.keeps before c.args.op.now of.board))
