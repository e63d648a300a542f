use Rattle.std.proofs.Common.{◌≤◌, ◌+◌, min, subst}
use Rattle.std.specs.List.{fold}
use Rattle.dp_board.proofs.TableSteps.{oldest-rises_to}
use Rattle.dp_board.proofs.table.StrokeTable.advance.Goals as goal

pub returns-clause-reach : goal.returns-clause-reach
returns-clause-reach g c =
    let later = c.take-2.new.self in
    subst (λ t. fold min t.position t.window.points
    ≤ fold min (c.self.inside.position + 1) later.points) c.self.view_is
    (oldest-rises_to c.self.inside.position c.args.act.now.act c.self.inside.window later
    c.in_ok-take-2.ensures.ok)
