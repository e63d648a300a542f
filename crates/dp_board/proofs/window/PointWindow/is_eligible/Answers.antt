use Rattle.std.proofs.Common.{◌≡◌, ◌-◌, ◌∙◌, ap, sym, arith, length, get_or}
use Rattle.std.specs.VecDeque.{deque_len}
use Rattle.dp_board.specs.Strokes.{is_eligible}
use Rattle.dp_board.proofs.RisingLemmas.{before_first, after_last}
use Rattle.dp_board.proofs.window.PointWindow.is_eligible.Goals as goal

pub returns : goal.returns
returns c =
    sym (before_first c.self.inside.points.items c.in-Some.first.now c.args.group
    c.self.invariant (omega (arith, c.in-Some.ensures.lookup)) c.if-group-first.true)
    ∙ ap (λ w. is_eligible w c.args.group) c.self.view_is

pub returns-2 : goal.returns-2
returns-2 c =
    let points = c.self.inside.points.items in
    let last = c.in-Some-back.last.now in
    let count : deque_len c.self.inside.points ≡ length points = omega arith in
    sym (after_last points last c.args.group c.self.invariant
    (c.in-Some-back.ensures.lookup ∙ ap (λ n. get_or points (n - 1) last) count)
    c.if-last-group.true)
    ∙ ap (λ w. is_eligible w c.args.group) c.self.view_is
