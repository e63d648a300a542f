use Rattle.std.proofs.Common.{◌<◌, ◌≤◌, ◌∙◌, sym, subst}
use Rattle.std.specs.List.{All}
use Rattle.dp_board.specs.Table.{oldest_in}
use Rattle.dp_board.proofs.TableSteps.{IfSome-each, moved_in-is}
use Rattle.dp_board.proofs.table.StrokeTable.moved.Goals as goal

pub returns-clause-before : goal.returns-clause-before
returns-clause-before g c =
    IfSome-each c.group_moved.result (λ group. group < c.args.self.now.position) (λ group is.
    (moved_in-is c.args.self.now c.args.act.now group (sym c.group_moved.ensures.value ∙ is)
    (subst (λ t. All (λ p. p < t.position) t.window.points) c.self.view_is
    c.self.invariant.before)).0)

pub returns-clause-reach : goal.returns-clause-reach
returns-clause-reach g c =
    IfSome-each c.group_moved.result (λ group. oldest_in c.args.self.now ≤ group) (λ group is.
    (moved_in-is c.args.self.now c.args.act.now group (sym c.group_moved.ensures.value ∙ is)
    (subst (λ t. All (λ p. p < t.position) t.window.points) c.self.view_is
    c.self.invariant.before)).1)
